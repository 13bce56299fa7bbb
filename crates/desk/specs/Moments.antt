-- What a desk, its frames and its log are at one moment; what each call needs of a moment, and what each call keeps to the next one.
use Rattle.std.specs.Prelude.{ℕ, true, List, [], ◌∷◌, ◌++◌, ◌≡◌, ◌<◌, ◌≤◌, ◌+◌, ◌^◌, ◌⊎◌, Option, IfSome, length}
use Rattle.std.specs.Option.{option_map}
use Rattle.page_ids.specs.declared.limits.TheConstants.{CLOCK_BITS}
use Rattle.page_disk.specs.Disks.{DiskSeen}
use Rattle.redo_mark.specs.Device.{Told, RedoSeen}
use Rattle.redo_mark.specs.Logs as log
use Rattle.redo_mark.specs.Logs.{Seen, Holds, IsLater, IsKept}
use Rattle.redo_mark.specs.Records.{record_of}
use Rattle.redo_mark.specs.declared.record.Change.{Change}
use Rattle.trail.specs.Book.{book, is_late}
use Rattle.trail.specs.Calls.{held_after_kind}
use Rattle.trail.specs.Dirt.{log_end}
use Rattle.trail.specs.declared.event.Call.{Call}
use Rattle.trail.specs.declared.event.Cause.{Cause}
use Rattle.trail.specs.declared.event.Entry.{Entry}
use Rattle.frame_words.specs.Appends.{extended, turn_after}
use Rattle.frame_words.specs.Seen.{FramesSeen}
use Rattle.desk.specs.Base.{Opened}
use Rattle.desk.specs.Behind.{IsBehind}
use Rattle.desk.specs.Changes.{LeavesDesk}
use Rattle.desk.specs.Logged.{IsLogged, IsMarkBehind, AreUpTo}
use Rattle.desk.specs.State.{State, DeskWithRoom}
use Rattle.desk.specs.Tied.{AreTied, HasTurn}
use Rattle.desk.specs.Victims.{AreSettled}
use Rattle.desk.specs.declared.calls.Caller.{Caller}

-- What a caller knows of the log: its marks with the log's bytes, and what the log's device tells, now and at the opening.
pub record LogSeen : Type 0 where
  pub seen : Seen
  pub told : Option Told
  pub opening : Option Told

abbrev pub log_seen : {R : Type 0} → (R → RedoSeen) → log.State R → LogSeen
log_seen seen l = record { seen = l.seen; told = (seen l.disk).told; opening = l.opening }

-- a desk, its frames as they are seen, and its log as its caller knows it
pub record Moment (D : Type 0) : Type 0 where
  pub desk : State D
  pub frames : FramesSeen
  pub log : LogSeen

abbrev pub moment : {D : Type 0} → State D → FramesSeen → LogSeen → Moment D
moment desk frames log = record { desk = desk; frames = frames; log = log }

abbrev pub moment_of : {D F R : Type 0} → (F → FramesSeen) → (R → RedoSeen) → DeskWithRoom D → F → log.State R → Moment D
moment_of frames seen k f l = moment k.state (frames f) (log_seen seen l)

-- places and room for so many entries
pub record HasRoomFor {D : Type 0} (most : ℕ) (desk : DeskWithRoom D) : Type 0 where
  pub places : desk.state.config.first + length desk.state.history + most < 2 ^ CLOCK_BITS
  pub room : most ≤ desk.room

-- no frame that was given is still in hand
abbrev pub IsEmptyHanded : {D : Type 0} → State D → Type 0
IsEmptyHanded desk = (book desk.config desk.history).hands ≡ []

-- none but one that was given to this call
abbrev pub HasOwnAlone : {D : Type 0} → State D → Caller → Type 0
HasOwnAlone desk by = IsEmptyHanded desk ⊎ ((f : ℕ) × ((book desk.config desk.history).hands ≡ record { frame = f; caller = by.pass; number = by.number } ∷ []))

-- none behind this refusal of such a call: none was, or the call's own is given back
abbrev pub EmptiesHand : {D : Type 0} → State D → Call → Cause → Type 0
EmptiesHand desk asked why = IsEmptyHanded desk ⊎ (is_late asked why ≡ true)

-- a desk and its frames between calls
pub record IsAtRest {D : Type 0} (seen : D → DiskSeen) (desk : State D) (frames : FramesSeen) : Type 0 where
  pub tied : AreTied seen frames desk
  pub settled : AreSettled frames.rows
  pub hands : IsEmptyHanded desk

-- and between the steps of this call
pub record IsBetweenSteps {D : Type 0} (seen : D → DiskSeen) (by : Caller) (desk : State D) (frames : FramesSeen) : Type 0 where
  pub tied : AreTied seen frames desk
  pub settled : AreSettled frames.rows
  pub hand : HasOwnAlone desk by

-- What each call needs.
pub record IsReady {D : Type 0} (seen : D → DiskSeen) (m : Moment D) (by : Caller) : Type 0 where
  pub rest : IsAtRest seen m.desk m.frames
  pub turn : HasTurn m.frames by
  -- the history's changes are in the log
  pub known : log_end m.desk.history ≤ m.log.seen.end

-- what is told, where it is, behind entries that came, the newest first: each makes its step
abbrev pub behind_each : {A : Type 0} → (Entry → A → A) → List Entry → Option A → Option A
behind_each step [] told = told
behind_each step (e ∷ came) told = option_map (step e) (behind_each step came told)

-- A holder's view follows the entries that came: its turn, its open fixes, and the history that is told. First values that are told stay.
pub record Follows (came : List Entry) (old new : FramesSeen) : Type 0 where
  pub turn : new.turn ≡ behind_each (λ (e : Entry). turn_after e.kind) came old.turn
  pub opened : new.opened ≡ behind_each (λ (e : Entry). held_after_kind e.number e.kind) came old.opened
  pub history : new.history ≡ behind_each extended came old.history
  pub base : new.base ≡ old.base

-- which entries came, and that the holder's view followed them
pub record Came {D : Type 0} (old new : State D) (s t : FramesSeen) : Type 0 where
  pub came : List Entry
  pub split : new.history ≡ came ++ old.history
  pub view : Follows came s t

-- What steps keep, which appended so many entries at most and leave desk and frames so: all that goes on from step to step.
pub record KeepsTo {D : Type 0} (seen : D → DiskSeen) (Leaves : State D → FramesSeen → Type 0) (most : ℕ) (m n : Moment D) : Type 0 where
  pub count : length n.desk.history ≤ length m.desk.history + most
  pub rest : Leaves n.desk n.frames
  pub desk : LeavesDesk seen m.desk n.desk
  pub came : Came m.desk n.desk m.frames n.frames
  -- the log goes on, and has of the new history what it had of the old one
  pub later : IsLater m.log.seen n.log.seen
  pub opening : n.log.opening ≡ m.log.opening
  pub kept : IsKept m.log.seen m.log.told → IsKept n.log.seen n.log.told
  pub logged : IsLogged m.log.seen m.desk.history → IsLogged n.log.seen n.desk.history
  pub known : log_end m.desk.history ≤ m.log.seen.end → log_end n.desk.history ≤ n.log.seen.end
  -- the disk and the frames are behind the history as they have to be
  pub behind : (o : Opened) → IfSome m.frames.base (λ base. base ≡ o.base) → IsBehind seen o m.desk m.frames → IsBehind seen o n.desk n.frames

-- what each call keeps
abbrev pub Keeps : {D : Type 0} → (D → DiskSeen) → ℕ → Moment D → Moment D → Type 0
Keeps seen most m n = KeepsTo seen (IsAtRest seen) most m n

-- what steps of this call keep
abbrev pub Proceeds : {D : Type 0} → (D → DiskSeen) → Caller → ℕ → Moment D → Moment D → Type 0
Proceeds seen by most m n = KeepsTo seen (IsBetweenSteps seen by) most m n

-- What a call used of the log, which doesn't go on from call to call: each write that it appended says the durable mark behind it.
pub record UsesLog {D : Type 0} (m n : Moment D) : Type 0 where
  pub upto : AreUpTo n.log.seen.durable m.desk.history n.desk.history
  pub mark : IsMarkBehind m.log.seen n.log.seen.durable

-- Nothing was put into the log: it ends where it did.
abbrev pub IsAsLong : LogSeen → LogSeen → Type 0
IsAsLong old new = new.seen.end ≡ old.seen.end

-- Just the record of this change was put into the log, at its end. Where passes share a log, others' records come around it: then the log is later, and holds it.
pub record Adds (old new : LogSeen) (c : Change) (start : ℕ) : Type 0 where
  pub start_is : start ≡ old.seen.end
  pub holds : Holds new.seen (record_of c start) start
  pub end : new.seen.end ≡ start + length (record_of c start)

-- the log's device was not used
pub record IsSameDevice (old new : LogSeen) : Type 0 where
  pub told_is : new.told ≡ old.told
  pub durable_is : new.seen.durable ≡ old.seen.durable
