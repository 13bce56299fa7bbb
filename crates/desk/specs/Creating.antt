-- What a create does, and why it is refused.
use Rattle.std.specs.Prelude.{ℕ, List, ◌≡◌, ◌+◌, ◌<◌, ◌≤◌, ◌^◌, ⊤, None, Some, replicate, slice_set}
use Rattle.page_ids.specs.Content.{Content}
use Rattle.page_ids.specs.Size.{page_bytes}
use Rattle.page_ids.specs.declared.ids.PageId.{PageId}
use Rattle.page_ids.specs.declared.limits.TheConstants.{LAST_LSN, MOST_FIXES, RECORD_BYTES}
use Rattle.page_disk.specs.Disks.{DiskSeen, pages_in}
use Rattle.trail.specs.declared.event.Call.TheVariants as call
use Rattle.trail.specs.declared.event.Cause.TheVariants as cause
use Rattle.trail.specs.declared.event.Kind.TheVariants as kind
use Rattle.trail.specs.Trails.{mark}
use Rattle.trail.specs.Book.{book, frame_in_turn}
use Rattle.trail.specs.History.{home}
use Rattle.frame_words.specs.Rows.{Row, laid_row, published_row, held_row}
use Rattle.desk.specs.Fixing.{IsHeldFull, IsUnseated, IsUnwritten}
use Rattle.desk.specs.State.{State}
use Rattle.desk.specs.Steps.{IsAppended, RefusesCall, IsPastEnd, row_in}
use Rattle.instance_lists.specs.Ledger.{IsVacant}
use Rattle.desk.specs.Victims.{IsHad, MustWrite, MustCover}
use Rattle.desk.specs.declared.calls.Caller.{Caller}
use Rattle.desk.specs.declared.calls.Granted.{Granted}
use Rattle.desk.specs.declared.calls.CreateErr.{CreateErr}
use Rattle.desk.specs.declared.calls.CreateErr.TheVariants as refusal
use Rattle.desk.specs.declared.calls.FrameErr.{FrameErr}
use Rattle.desk.specs.declared.calls.FrameErr.TheVariants as unhad

-- a page of zeros with this LSN
abbrev pub blank_at : ℕ → ℕ → Content
blank_at size lsn = record { lsn = lsn; bytes = replicate size 0 }

-- a blank page was laid into the frame, published there at this clock, and fixed
abbrev pub made_row : Row → PageId → Content → ℕ → Row
made_row r p content clock = held_row (published_row (laid_row r content) p clock)

-- The page was made in the next frame, and its record, of 21 bytes, starts at this LSN. No device was used. The frame has one fix more.
pub record IsMade {D : Type 0} (old new : State D) (rows rows' : List Row) (by : Caller) (p : PageId) (now start : ℕ) (g : Granted) : Type 0 where
  pub absent : home old.history p ≡ None
  pub below : g.frame < old.config.frames
  pub fresh : IsVacant old.history g.frame
  pub frame : frame_in_turn (book old.config old.history) ≡ Some g.frame
  pub place : g.place ≡ mark old.config.first old.history + 1
  pub clock : g.clock ≡ g.place
  pub entry : IsAppended old new by (kind.Create p g.frame start (start + RECORD_BYTES) now)
  pub disk : new.disk ≡ old.disk
  pub rows_are : rows' ≡ slice_set rows g.frame (made_row (row_in rows g.frame) p (blank_at (page_bytes old.config.page) (start + RECORD_BYTES)) g.place)

-- a frame was had, and the page was made in it; the log's end went from `first` to `last`
pub record IsCreatedBy {D : Type 0} (old new : State D) (rows rows' : List Row) (by : Caller) (p : PageId) (now first last : ℕ) (g : Granted) : Type 0 where
  pub absent : home old.history p ≡ None
  pub had : State D
  pub cleared : List Row
  pub frame_is : IsHad old had rows cleared by g.frame
  pub start : ℕ
  pub known : (first ≤ start) × (start + RECORD_BYTES ≤ last)
  pub made : IsMade had new cleared rows' by p now start g

-- the page is resident; nothing else happened
pub record IsFoundAtHome {D : Type 0} (old new : State D) (by : Caller) (p : PageId) (now f : ℕ) : Type 0 where
  pub resident : home old.history p ≡ Some f
  pub entry : RefusesCall old new by (call.Create p now) (cause.Resident f)
  pub disk : new.disk ≡ old.disk

-- a frame was had; the log ended here at the refusal, and the record would end above 2^63
pub record IsUncreated {D : Type 0} (old new : State D) (rows rows' : List Row) (by : Caller) (p : PageId) (now first last end : ℕ) : Type 0 where
  pub absent : home old.history p ≡ None
  pub had : State D
  pub frame : ℕ
  pub frame_is : IsHad old had rows rows' by frame
  pub known : (first ≤ end) × (end ≤ last)
  pub beyond : LAST_LSN < end + RECORD_BYTES
  pub entry : RefusesCall had new by (call.Create p now) (cause.LogSpent end)
  pub disk : new.disk ≡ had.disk

-- Why a create was refused, and what stands then: nothing has changed, or the refusal was appended. The log was durable up to `durable`, its end went from
-- `first` to `last`, and its count of faults from `was` to `is`.
abbrev pub IsCreateRefusal : {D : Type 0} → (D → DiskSeen) → State D → State D → List Row → List Row → Caller → ℕ → PageId → ℕ → ℕ → ℕ → ℕ → ℕ → ℕ → CreateErr → Type 0
IsCreateRefusal seen old new rows rows' by held p now durable first last was is refusal.OutOfMemory = (new ≡ old) × (rows' ≡ rows)
IsCreateRefusal seen old new rows rows' by held p now durable first last was is (refusal.NoSuchPage pages) = IsPastEnd seen old new by p (call.Create p now) pages × (rows' ≡ rows)
IsCreateRefusal seen old new rows rows' by held p now durable first last was is (refusal.HoldFull full) =
    (p.page < pages_in (seen old.disk).spaces p.space) × IsHeldFull old new by (call.Create p now) held full × (rows' ≡ rows)
IsCreateRefusal seen old new rows rows' by held p now durable first last was is (refusal.Resident f) =
    (p.page < pages_in (seen old.disk).spaces p.space) × (held < MOST_FIXES) × IsFoundAtHome old new by p now f × (rows' ≡ rows)
IsCreateRefusal seen old new rows rows' by held p now durable first last was is (refusal.AllFixed words) =
    (p.page < pages_in (seen old.disk).spaces p.space) × (held < MOST_FIXES) × IsUnseated old new rows by p (call.Create p now) words × (rows' ≡ rows)
IsCreateRefusal seen old new rows rows' by held p now durable first last was is (refusal.RedoFault before after) =
    (p.page < pages_in (seen old.disk).spaces p.space) × (held < MOST_FIXES)
    × IsUnwritten old new by p (call.Create p now) was is before after (cause.RedoFault before after) × (rows' ≡ rows) × MustCover old rows durable × (new.disk ≡ old.disk)
IsCreateRefusal seen old new rows rows' by held p now durable first last was is (refusal.DiskFault before after) =
    (p.page < pages_in (seen old.disk).spaces p.space) × (held < MOST_FIXES)
    × IsUnwritten old new by p (call.Create p now) (seen old.disk).faults (seen new.disk).faults before after (cause.DiskFault before after) × (rows' ≡ rows) × MustWrite old rows
IsCreateRefusal seen old new rows rows' by held p now durable first last was is (refusal.LogSpent end) =
    (p.page < pages_in (seen old.disk).spaces p.space) × (held < MOST_FIXES) × IsUncreated old new rows rows' by p now first last end

-- why a create is refused for which no frame was had
abbrev pub create_err_of : FrameErr → CreateErr
create_err_of unhad.OutOfMemory = refusal.OutOfMemory
create_err_of (unhad.AllFixed seen) = refusal.AllFixed seen
create_err_of (unhad.RedoFault before after) = refusal.RedoFault before after
create_err_of (unhad.DiskFault before after) = refusal.DiskFault before after

-- the log is as it was at a refusal for which no frame was had, but for a device's fault
abbrev pub LeavesLog : {L : Type 0} → L → L → CreateErr → Type 0
LeavesLog old new refusal.OutOfMemory = new ≡ old
LeavesLog old new (refusal.NoSuchPage pages) = new ≡ old
LeavesLog old new (refusal.HoldFull held) = new ≡ old
LeavesLog old new (refusal.Resident f) = new ≡ old
LeavesLog old new (refusal.AllFixed words) = new ≡ old
LeavesLog old new (refusal.RedoFault before after) = ⊤
LeavesLog old new (refusal.DiskFault before after) = ⊤
LeavesLog old new (refusal.LogSpent end) = ⊤
