-- What a put does, and what a clean does.
use Rattle.std.specs.Prelude.{ℕ, zero, suc, List, [], ◌∷◌, ◌≡◌, ◌+◌, ◌<◌, ◌≤◌, ◌^◌, ◌++◌, ◌⊎◌, true, Some, length, slice_set, nat_le, if◌then◌else◌, ⊤}
use Rattle.page_ids.specs.Content.{Content, patched}
use Rattle.page_ids.specs.Layout.{IsPage}
use Rattle.page_ids.specs.declared.ids.PageId.{PageId}
use Rattle.page_ids.specs.declared.limits.TheConstants.{LAST_LSN, RECORD_BYTES}
use Rattle.page_disk.specs.Disks.{DiskSeen}
use Rattle.trail.specs.declared.event.Call.TheVariants as call
use Rattle.trail.specs.declared.event.Cause.TheVariants as cause
use Rattle.trail.specs.declared.event.Dirty.{Dirty}
use Rattle.trail.specs.declared.event.Kind.{Kind}
use Rattle.trail.specs.declared.event.Kind.TheVariants as kind
use Rattle.trail.specs.declared.event.Entry.{Entry}
use Rattle.trail.specs.Trails.{mark}
use Rattle.trail.specs.History.{home}
use Rattle.trail.specs.Dirt.{dirty}
use Rattle.frame_words.specs.Rows.{Row, Uncovers, unlatched_row}
use Rattle.desk.specs.Ledger.{entry_behind}
use Rattle.desk.specs.Logged.{IsUpTo}
use Rattle.desk.specs.State.{State}
use Rattle.desk.specs.Steps.{IsAppended, row_in}
use Rattle.desk.specs.Reads.{RoseWithin}
use Rattle.desk.specs.declared.calls.Caller.{Caller}
use Rattle.desk.specs.declared.calls.PutDone.{PutDone}
use Rattle.desk.specs.declared.calls.PutErr.{PutErr}
use Rattle.desk.specs.declared.calls.PutErr.TheVariants as unput
use Rattle.desk.specs.declared.flush.WriteErr.{WriteErr}
use Rattle.desk.specs.declared.flush.WriteErr.TheVariants as unwritten

-- an image was changed in the frame, which was latched for it
abbrev pub changed_row : Row → Content → ℕ → Row
changed_row r content clock = unlatched_row (record r { clock = clock; image = Some (Some content) })

-- The record starts at this LSN; the page's image has the bytes and the record's end as its LSN, and the entry was appended. No other frame changed, nor the disk.
pub record IsPutBy {D : Type 0} (old new : State D) (rows rows' : List Row) (by : Caller) (p : PageId) (at : ℕ) (bytes : List ℕ) (done : PutDone) : Type 0 where
  pub frame : ℕ
  pub content : Content
  pub start : ℕ
  pub resident : home old.history p ≡ Some frame
  pub image : Uncovers (row_in rows frame).image (Some (Some content))
  pub lsn : done.lsn ≡ start + RECORD_BYTES + length bytes
  pub place : done.place ≡ mark old.config.first old.history + 1
  pub entry : IsAppended old new by (kind.Put p at bytes start done.lsn)
  pub rows_are : rows' ≡ slice_set rows frame (changed_row (row_in rows frame) (patched content at bytes done.lsn) done.place)
  pub disk : new.disk ≡ old.disk

-- the log ended here at the refusal, and the record would end above 2^63; the page is as it was
pub record IsSpentBy {D : Type 0} (old new : State D) (by : Caller) (p : PageId) (at : ℕ) (bytes : List ℕ) (first last end : ℕ) : Type 0 where
  pub known : (first ≤ end) × (end ≤ last)
  pub beyond : LAST_LSN < end + RECORD_BYTES + length bytes
  pub entry : IsAppended old new by (kind.Refused (call.Put p at bytes) (cause.LogSpent end))
  pub disk : new.disk ≡ old.disk

-- why a put was refused, and what stands then; the log's end went from `first` to `last`
abbrev pub IsPutRefusal : {D : Type 0} → State D → State D → Caller → PageId → ℕ → List ℕ → ℕ → ℕ → PutErr → Type 0
IsPutRefusal old new by p at bytes first last unput.OutOfMemory = new ≡ old
IsPutRefusal old new by p at bytes first last (unput.LogSpent end) = IsSpentBy old new by p at bytes first last end

-- where the disk tells, the page's bytes are those of the image
pub record IsImageTold (p : PageId) (content : Content) (old new : DiskSeen) : Type 0 where
  pub bytes : List ℕ
  pub page : IsPage p bytes content
  pub tells_it : old.tells ≡ true → new.told p ≡ Some bytes

-- the counts of faults of the disk or of the log rose so, within a call in which they went from the first to the second
abbrev pub IsWriteFault : ℕ → ℕ → ℕ → ℕ → WriteErr → Type 0
IsWriteFault disk_was disk_is log_was log_is (unwritten.RedoFault before after) = RoseWithin log_was log_is before after
IsWriteFault disk_was disk_is log_was log_is (unwritten.DiskFault before after) = RoseWithin disk_was disk_is before after

-- the log failed only where this made it needed, and then the disk was not used
abbrev pub IsForced : {D : Type 0} → D → D → Type 0 → WriteErr → Type 0
IsForced old new needed (unwritten.RedoFault before after) = needed × (new ≡ old)
IsForced old new needed (unwritten.DiskFault before after) = ⊤

-- what writes leave of a desk and its disk; no count of faults fell
pub record LeavesDesk {D : Type 0} (seen : D → DiskSeen) (old new : State D) : Type 0 where
  pub config : new.config ≡ old.config
  pub instance : new.instance ≡ old.instance
  pub sizes : (seen new.disk).size ≡ (seen old.disk).size
  pub telling : (seen new.disk).tells ≡ (seen old.disk).tells
  pub spaces_are : (space : ℕ) → (seen new.disk).spaces space ≡ (seen old.disk).spaces space
  pub later : (seen old.disk).faults ≤ (seen new.disk).faults

-- the page that was dirty first was written with its newest LSN, the log durable up to there at least
pub record IsWriteBack (first : ℕ) (by : Caller) (old new : List Entry) : Type 0 where
  pub oldest : Dirty
  pub rest : List Dirty
  pub upto : ℕ
  pub first_is : dirty old ≡ oldest ∷ rest
  pub covered : oldest.newest ≤ upto
  pub entry : new ≡ entry_behind first old by (kind.Write oldest.page oldest.newest upto) ∷ old

-- so many pages were written, one after the other
abbrev pub WritesBack : ℕ → Caller → ℕ → List Entry → List Entry → Type 0
WritesBack first by zero old new = new ≡ old
WritesBack first by (suc n) old new = (mid : List Entry) × WritesBack first by n old mid × IsWriteBack first by mid new

-- how far a log that was durable up to here and ends there is durable behind a cover of an LSN: as it was where that reaches it, else up to its end
abbrev pub covered_to : ℕ → ℕ → ℕ → ℕ
covered_to durable end lsn = if nat_le lsn durable then durable else end

-- and behind an entry: a write covered its page's LSN
abbrev pub mark_at : ℕ → ℕ → Kind → ℕ
mark_at durable end (kind.Load p f) = durable
mark_at durable end (kind.Fix p f clock now) = durable
mark_at durable end (kind.Create p f start last now) = durable
mark_at durable end (kind.Put p at bytes start last) = durable
mark_at durable end (kind.Evict p f passed) = durable
mark_at durable end (kind.Write p lsn upto) = covered_to durable end lsn
mark_at durable end (kind.Move p from to) = durable
mark_at durable end (kind.Withdraw from) = durable
mark_at durable end (kind.Undo from) = durable
mark_at durable end (kind.Shrink chunks) = durable
mark_at durable end (kind.Grow chunks) = durable
mark_at durable end (kind.Resize bytes chunks) = durable
mark_at durable end (kind.Clean written skipped) = durable
mark_at durable end (kind.Check lsn) = durable
mark_at durable end (kind.WatchSet p) = durable
mark_at durable end (kind.WatchAt p f) = durable
mark_at durable end (kind.Occurred p arrived) = durable
mark_at durable end (kind.Unwatch p) = durable
mark_at durable end (kind.Dump pct ids) = durable
mark_at durable end (kind.Refused asked why) = durable

-- the durable mark behind these entries, the newest first: each write of a page covered its LSN
abbrev pub mark_behind : ℕ → ℕ → List Entry → ℕ
mark_behind durable end [] = durable
mark_behind durable end (e ∷ came) = mark_at (mark_behind durable end came) end e.kind

-- and each write says that mark
abbrev pub AllSayMarks : ℕ → ℕ → List Entry → Type 0
AllSayMarks durable end [] = ⊤
AllSayMarks durable end (e ∷ came) = IsUpTo (mark_behind durable end (e ∷ came)) e.kind × AllSayMarks durable end came

-- The log ended here and was durable up to the first mark, and up to the second behind the entries that came, whose writes say so.
pub record AreMarked (durable end now : ℕ) (old new : List Entry) : Type 0 where
  pub came : List Entry
  pub split : new ≡ came ++ old
  pub each : AllSayMarks durable end came
  pub now_is : now ≡ mark_behind durable end came

-- so many pages were written, and then the call's answer was appended
pub record IsCleanedBy {D : Type 0} (old new : State D) (by : Caller) (written : ℕ) (answer : Kind) : Type 0 where
  pub mid : List Entry
  pub writes : WritesBack old.config.first by written old.history mid
  pub history : new.history ≡ entry_behind old.config.first mid by answer ∷ mid
  pub config : new.config ≡ old.config
  pub instance : new.instance ≡ old.instance

-- so many were written, no more than the bound; all that were dirty where they are fewer
pub record IsCleaned {D : Type 0} (old new : State D) (by : Caller) (bound written : ℕ) : Type 0 where
  pub cleaned : IsCleanedBy old new by written (kind.Clean written [])
  pub most : written ≤ bound
  pub all : (written ≡ bound) ⊎ (dirty new.history ≡ [])
