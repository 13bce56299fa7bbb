-- What writes of dirty pages need, what they leave, and what a clean answers.
use Rattle.std.specs.Prelude.{ℕ, Bool, true, false, List, [], ◌∷◌, ◌≡◌, ◌+◌, ◌<◌, ◌≤◌, ◌^◌, ◌⊎◌, ⊤, Result, Ok, Err, IsTrue, IsSome, length}
use Rattle.page_ids.specs.declared.limits.TheConstants.{CLOCK_BITS}
use Rattle.page_disk.specs.Disks.{DiskSeen}
use Rattle.redo_mark.specs.Logs.{Seen}
use Rattle.trail.specs.declared.event.Call.TheVariants as call
use Rattle.trail.specs.declared.event.Cause.{Cause}
use Rattle.trail.specs.declared.event.Cause.TheVariants as cause
use Rattle.trail.specs.declared.event.Dirty.{Dirty}
use Rattle.trail.specs.declared.event.Entry.{Entry}
use Rattle.trail.specs.declared.event.Kind.TheVariants as kind
use Rattle.trail.specs.History.{home}
use Rattle.trail.specs.Dirt.{dirty, log_end}
use Rattle.desk.specs.Base.{Opened}
use Rattle.desk.specs.Behind.{IsBehind}
use Rattle.desk.specs.Changes.{IsWriteBack, WritesBack, IsWriteFault, IsForced, covered_to, AreMarked, IsCleanedBy, IsCleaned}
use Rattle.desk.specs.Moments.{Moment}
use Rattle.desk.specs.Reads.{RoseWithin}
use Rattle.desk.specs.State.{State, DeskWithRoom}
use Rattle.desk.specs.Tied.{HasTurn}
use Rattle.desk.specs.Writing.{IsLeftAt}
use Rattle.desk.specs.declared.calls.Caller.{Caller}
use Rattle.desk.specs.declared.calls.Cleaned.{Cleaned}
use Rattle.desk.specs.declared.calls.CleanErr.{CleanErr}
use Rattle.desk.specs.declared.calls.CleanErr.TheVariants as unclean
use Rattle.desk.specs.declared.flush.WriteErr.{WriteErr}
use Rattle.desk.specs.declared.flush.WriteErr.TheVariants as unwritten

-- places and room for so many writes of dirty pages, and for the answer behind them
pub record MayWriteBack {D : Type 0} (most : ℕ) (desk : DeskWithRoom D) : Type 0 where
  pub places : desk.state.config.first + length desk.state.history + length (dirty desk.state.history) + 1 < 2 ^ CLOCK_BITS
  pub room : (n : ℕ) → n ≤ most → n ≤ length (dirty desk.state.history) → n < desk.room

-- the page is resident, and was dirty first
pub record IsFirstDirty (h : List Entry) (d : Dirty) : Type 0 where
  pub rest : List Dirty
  pub first_is : dirty h ≡ d ∷ rest
  pub resident : IsSome (home h d.page)
  pub logged : d.newest ≤ log_end h

-- each entry that came took the room of one
abbrev pub LeavesRoom : {D : Type 0} → DeskWithRoom D → DeskWithRoom D → Type 0
LeavesRoom old new = old.room + length old.state.history ≤ new.room + length new.state.history

-- The frames are as they were, the caller goes on with its turn, and the log has no record more.
pub record StaysPut {D : Type 0} (seen : D → DiskSeen) (m n : Moment D) (by : Caller) : Type 0 where
  pub unmoved : n.frames.rows ≡ m.frames.rows
  pub turn : HasTurn n.frames by
  pub end : n.log.seen.end ≡ m.log.seen.end
  pub behind : (o : Opened) → IsBehind seen o m.desk m.frames → IsBehind seen o n.desk n.frames

-- the page that was dirty first was written, and its entry says the durable mark
pub record WroteFirst {D : Type 0} (m n : Moment D) (by : Caller) : Type 0 where
  pub back : IsWriteBack m.desk.config.first by m.desk.history n.desk.history
  pub marked : AreMarked m.log.seen.durable m.log.seen.end n.log.seen.durable m.desk.history n.desk.history

-- It could not be: the log, which isn't durable up to its newest change, failed before the disk was used; or the disk did.
pub record UnwroteFirst {D : Type 0} (seen : D → DiskSeen) (m n : Moment D) (first : Dirty) (e : WriteErr) : Type 0 where
  pub still : n.desk.history ≡ m.desk.history
  pub fault : IsWriteFault (seen m.desk.disk).faults (seen n.desk.disk).faults m.log.seen.faults n.log.seen.faults e
  pub forced : IsForced m.desk.disk n.desk.disk (n.log.seen.durable < first.newest) e
  pub left : IsLeftAt m.log.seen.durable m.log.seen.end first.newest n.log.seen.durable e

-- No use is made of a log that is durable up to its end, nor where nothing is to be written or synced.
abbrev pub NeedsNoLog : {D : Type 0} → Moment D → ℕ → Bool → Type 0
NeedsNoLog m most sync = (m.log.seen.end ≤ m.log.seen.durable) ⊎ ((sync ≡ false) × ((most ≡ 0) ⊎ (dirty m.desk.history ≡ [])))

-- Where a clean stops that has written so many: a page was still to be written; or none was, and it syncs.
abbrev pub IsStop : ℕ → ℕ → Bool → List Dirty → Type 0
IsStop written most sync left = ((written < most) × (0 < length left)) ⊎ ((sync ≡ true) × ((written ≡ most) ⊎ (left ≡ [])))

-- the first of these pages was changed behind the mark
abbrev pub IsFirstAhead : List Dirty → ℕ → Type 0
IsFirstAhead [] mark = ⊥
IsFirstAhead (d ∷ left) mark = mark < d.newest

-- Where it stops so for the log: that isn't durable up to the page's newest change; or up to its end.
abbrev pub NeedsLog : ℕ → ℕ → Bool → List Dirty → Seen → Type 0
NeedsLog written most sync left log =
    ((written < most) × IsFirstAhead left log.durable) ⊎ ((sync ≡ true) × ((written ≡ most) ⊎ (left ≡ [])) × (log.durable < log.end))

-- the device that failed was needed
abbrev pub IsNeeded : ℕ → ℕ → Bool → List Dirty → Seen → WriteErr → Type 0
IsNeeded written most sync left log (unwritten.RedoFault before after) = NeedsLog written most sync left log
IsNeeded written most sync left log (unwritten.DiskFault before after) = IsStop written most sync left

-- The log is durable up to the newest change of the first of these pages, where it was up to `durable`.
abbrev pub IsFirstCovered : ℕ → ℕ → List Dirty → ℕ → Type 0
IsFirstCovered durable end [] now = ⊥
IsFirstCovered durable end (d ∷ left) now = now ≡ covered_to durable end d.newest

-- And behind writes up to that mark, the last of which failed: no farther where the log failed, else up to the newest change of the page.
abbrev pub IsUnwrittenMark : ℕ → ℕ → List Dirty → ℕ → WriteErr → Type 0
IsUnwrittenMark mark end left now (unwritten.RedoFault before after) = now ≡ mark
IsUnwrittenMark mark end left now (unwritten.DiskFault before after) = IsFirstCovered mark end left now

-- the same by a clean's answer
abbrev pub IsCleanMark : ℕ → ℕ → List Dirty → ℕ → Result Cleaned CleanErr → Type 0
IsCleanMark mark end left now (Ok c) = now ≡ mark
IsCleanMark mark end left now (Err unclean.OutOfMemory) = now ≡ mark
IsCleanMark mark end left now (Err (unclean.RedoFault before after)) = now ≡ mark
IsCleanMark mark end left now (Err (unclean.DiskFault before after)) = IsFirstCovered mark end left now

-- So many pages were written, the oldest first: as many as were asked, or all that were dirty. With `sync` all the log is durable then, and the disk synced.
pub record Flushed {D : Type 0} (seen : D → DiskSeen) (m n : Moment D) (by : Caller) (most : ℕ) (sync : Bool) (written : ℕ) : Type 0 where
  pub writes : WritesBack m.desk.config.first by written m.desk.history n.desk.history
  pub mark : ℕ
  pub marked : AreMarked m.log.seen.durable m.log.seen.end mark m.desk.history n.desk.history
  pub most_is : written ≤ most
  pub few : written ≤ length (dirty m.desk.history)
  pub all : (written ≡ most) ⊎ (dirty n.desk.history ≡ [])
  pub unused : sync ≡ false → written ≡ 0 → n.desk.disk ≡ m.desk.disk
  pub synced : IsTrue sync → IsTrue (seen n.desk.disk).synced
  pub whole : IsTrue sync → n.log.seen.durable ≡ n.log.seen.end
  pub left : sync ≡ false → n.log.seen.durable ≡ mark

-- So many were written before a device failed that was needed.
pub record Unflushed {D : Type 0} (seen : D → DiskSeen) (m n : Moment D) (by : Caller) (most : ℕ) (sync : Bool) (e : WriteErr) : Type 0 where
  pub written : ℕ
  pub writes : WritesBack m.desk.config.first by written m.desk.history n.desk.history
  pub mark : ℕ
  pub marked : AreMarked m.log.seen.durable m.log.seen.end mark m.desk.history n.desk.history
  pub most_is : written ≤ most
  pub few : written ≤ length (dirty m.desk.history)
  pub stop : IsStop written most sync (dirty n.desk.history)
  pub needed : IsNeeded written most sync (dirty n.desk.history) n.log.seen e
  pub fault : IsWriteFault (seen m.desk.disk).faults (seen n.desk.disk).faults m.log.seen.faults n.log.seen.faults e
  pub unused : written ≡ 0 → IsForced m.desk.disk n.desk.disk ⊤ e
  pub left : sync ≡ false → IsUnwrittenMark mark m.log.seen.end (dirty n.desk.history) n.log.seen.durable e

-- Dirty pages were written, or a device failed.
abbrev pub Flushes : {D : Type 0} → (D → DiskSeen) → Moment D → Moment D → Caller → ℕ → Bool → Result ℕ WriteErr → Type 0
Flushes seen m n by most sync (Ok written) = Flushed seen m n by most sync written
Flushes seen m n by most sync (Err e) = Unflushed seen m n by most sync e

-- What a clean leaves, answered or refused: the log has no record more, each write says how far it was durable behind it, and without a sync it is no farther behind the call.
pub record LeavesClean {D : Type 0} (seen : D → DiskSeen) (m n : Moment D) (bound : ℕ) (sync : Bool) (answer : Result Cleaned CleanErr) : Type 0 where
  pub unmoved : n.frames.rows ≡ m.frames.rows
  pub end : n.log.seen.end ≡ m.log.seen.end
  pub mark : ℕ
  pub marked : AreMarked m.log.seen.durable m.log.seen.end mark m.desk.history n.desk.history
  pub left : sync ≡ false → IsCleanMark mark m.log.seen.end (dirty n.desk.history) n.log.seen.durable answer
  -- where nothing is to be written or synced, no device is used; nor is a log that is durable up to its end
  pub unused : sync ≡ false → (bound ≡ 0) ⊎ (dirty m.desk.history ≡ []) → n.desk.disk ≡ m.desk.disk
  pub unlogged : NeedsNoLog m bound sync → n.log ≡ m.log
  pub behind : (o : Opened) → IsBehind seen o m.desk m.frames → IsBehind seen o n.desk n.frames

-- a refused clean keeps what it had written before the device failed
pub record IsUncleaned {D : Type 0} (old new : State D) (by : Caller) (bound : ℕ) (sync : Bool) (why : Cause) : Type 0 where
  pub written : ℕ
  pub cleaned : IsCleanedBy old new by written (kind.Refused (call.Clean bound) why)
  pub most : written ≤ bound
  pub stop : IsStop written bound sync (dirty new.history)

-- what is answered where a device stopped a clean
abbrev pub clean_err_of : WriteErr → CleanErr
clean_err_of (unwritten.RedoFault before after) = unclean.RedoFault before after
clean_err_of (unwritten.DiskFault before after) = unclean.DiskFault before after

-- Why a clean was refused, and what stands then. The device that failed was needed.
abbrev pub IsCleanRefusal : {D : Type 0} → (D → DiskSeen) → Moment D → Moment D → Caller → ℕ → Bool → CleanErr → Type 0
IsCleanRefusal seen m n by bound sync unclean.OutOfMemory = (n.desk ≡ m.desk) × (n.log ≡ m.log)
IsCleanRefusal seen m n by bound sync (unclean.RedoFault before after) =
    RoseWithin m.log.seen.faults n.log.seen.faults before after
    × (un : IsUncleaned m.desk n.desk by bound sync (cause.RedoFault before after))
    × NeedsLog un.written bound sync (dirty n.desk.history) n.log.seen × (un.written ≡ 0 → n.desk.disk ≡ m.desk.disk)
IsCleanRefusal seen m n by bound sync (unclean.DiskFault before after) =
    RoseWithin (seen m.desk.disk).faults (seen n.desk.disk).faults before after × IsUncleaned m.desk n.desk by bound sync (cause.DiskFault before after)

pub record HasCleaned {D : Type 0} (seen : D → DiskSeen) (m n : Moment D) (by : Caller) (bound : ℕ) (sync : Bool) (c : Cleaned) : Type 0 where
  pub cleaned : IsCleaned m.desk n.desk by bound c.written
  pub none_skipped : c.skipped ≡ []
  pub synced : IsTrue sync → IsTrue (seen n.desk.disk).synced
  pub whole : IsTrue sync → n.log.seen.durable ≡ n.log.seen.end

-- Pages were cleaned, or a device failed.
abbrev pub Cleans : {D : Type 0} → (D → DiskSeen) → Moment D → Moment D → Caller → ℕ → Bool → Result Cleaned CleanErr → Type 0
Cleans seen m n by bound sync (Ok c) = HasCleaned seen m n by bound sync c
Cleans seen m n by bound sync (Err e) = IsCleanRefusal seen m n by bound sync e
