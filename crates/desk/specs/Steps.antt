-- What a call of the desk appends, and what it leaves.
use Rattle.std.specs.Prelude.{ℕ, List, [], ◌∷◌, ◌≡◌, ◌+◌, ◌<◌, ◌≤◌, None, Some, slice_index_or, slice_set, IfSome}
use Rattle.page_ids.specs.Content.{Content}
use Rattle.page_ids.specs.Layout.{IsPage}
use Rattle.page_ids.specs.declared.ids.PageId.{PageId}
use Rattle.page_ids.specs.declared.config.Config.{Config}
use Rattle.page_ids.specs.declared.layout.BadPage.{BadPage}
use Rattle.page_disk.specs.Disks.{DiskSeen, pages_in, IsSameDisk}
use Rattle.trail.specs.declared.event.Entry.{Entry}
use Rattle.trail.specs.declared.event.Call.{Call}
use Rattle.trail.specs.declared.event.Call.TheVariants as call
use Rattle.trail.specs.declared.event.Cause.{Cause}
use Rattle.trail.specs.declared.event.Cause.TheVariants as cause
use Rattle.trail.specs.declared.event.Kind.{Kind}
use Rattle.trail.specs.declared.event.Kind.TheVariants as kind
use Rattle.trail.specs.Trails.{mark}
use Rattle.trail.specs.History.{home, change}
use Rattle.trail.specs.Book.{book, frame_in_turn}
use Rattle.frame_words.specs.Rows.{Row, new_row, laid_row, published_row, held_row}
use Rattle.instance_lists.specs.Ledger.{IsVacant}
use Rattle.desk.specs.Ledger.{entry_behind}
use Rattle.desk.specs.State.{State}
use Rattle.desk.specs.declared.calls.Caller.{Caller}
use Rattle.desk.specs.declared.calls.Granted.{Granted}
use Rattle.desk.specs.declared.calls.FixErr.{FixErr}
use Rattle.desk.specs.declared.calls.FixErr.TheVariants as refusal
use Rattle.desk.specs.Reads.{IsDiskFault, IsBadRead}

-- the caller's entry at the next place
abbrev pub next_entry : {D : Type 0} → State D → Caller → Kind → Entry
next_entry desk by k = entry_behind desk.config.first desk.history by k

-- one entry was appended
pub record IsAppended {D : Type 0} (old new : State D) (by : Caller) (k : Kind) : Type 0 where
  pub config : new.config ≡ old.config
  pub instance : new.instance ≡ old.instance
  pub history : new.history ≡ next_entry old by k ∷ old.history

-- one entry was appended, and the disk was not used
pub record AppendsEntry {D : Type 0} (old new : State D) (by : Caller) (k : Kind) : Type 0 where
  pub entry : IsAppended old new by k
  pub disk : new.disk ≡ old.disk

-- only the disk was used, and just to read
pub record OnlyReads {D : Type 0} (seen : D → DiskSeen) (old new : State D) : Type 0 where
  pub config : new.config ≡ old.config
  pub instance : new.instance ≡ old.instance
  pub history : new.history ≡ old.history
  pub disk : IsSameDisk (seen old.disk) (seen new.disk)

-- what is seen of a frame
abbrev pub row_in : List Row → ℕ → Row
row_in rows f = slice_index_or rows f new_row

-- a page was read into the frame, and published there at this clock
abbrev pub loaded_row : Row → PageId → Content → ℕ → Row
loaded_row r p content clock = published_row (laid_row r content) p clock

-- the page was read from the disk into the next frame
pub record IsLoaded {D : Type 0} (seen : D → DiskSeen) (old new : State D) (rows rows' : List Row) (by : Caller) (p : PageId) (f : ℕ) : Type 0 where
  pub absent : home old.history p ≡ None
  pub below : f < old.config.frames
  pub fresh : IsVacant old.history f
  pub frame : frame_in_turn (book old.config old.history) ≡ Some f
  pub entry : IsAppended old new by (kind.Load p f)
  pub content : Content
  pub read : IfSome ((seen old.disk).told p) (λ bytes. IsPage p bytes content)
  pub rows_are : rows' ≡ slice_set rows f (loaded_row (row_in rows f) p content (mark old.config.first old.history + 1))

-- A fix of a page that is in the frame was granted, and no device was used. The frame has one fix more.
pub record IsHit {D : Type 0} (old new : State D) (rows rows' : List Row) (by : Caller) (p : PageId) (now : ℕ) (g : Granted) : Type 0 where
  pub resident : home old.history p ≡ Some g.frame
  pub clock : g.clock ≡ change old.history g.frame
  pub place : g.place ≡ mark old.config.first old.history + 1
  pub entry : IsAppended old new by (kind.Fix p g.frame g.clock now)
  pub disk : new.disk ≡ old.disk
  pub rows_are : rows' ≡ slice_set rows g.frame (held_row (row_in rows g.frame))

-- the call was refused with this cause
abbrev pub RefusesCall : {D : Type 0} → State D → State D → Caller → Call → Cause → Type 0
RefusesCall old new by asked why = IsAppended old new by (kind.Refused asked why)

-- and so a fix
abbrev pub IsRefusedFix : {D : Type 0} → State D → State D → Caller → PageId → ℕ → Cause → Type 0
IsRefusedFix old new by p now why = RefusesCall old new by (call.Fix p now) why

-- the page lies outside its space; no device was used
pub record IsPastEnd {D : Type 0} (seen : D → DiskSeen) (old new : State D) (by : Caller) (p : PageId) (asked : Call) (pages : ℕ) : Type 0 where
  pub count : pages ≡ pages_in (seen old.disk).spaces p.space
  pub past_end : pages ≤ p.page
  pub entry : RefusesCall old new by asked (cause.NoSuchPage pages)
  pub disk : new.disk ≡ old.disk

-- the disk's count of faults rose so in the read of a page that was not resident
pub record IsFaulted {D : Type 0} (seen : D → DiskSeen) (old new : State D) (by : Caller) (p : PageId) (now before after : ℕ) : Type 0 where
  pub absent : home old.history p ≡ None
  pub fault : IsDiskFault (seen old.disk).faults (seen new.disk).faults before after
  pub entry : IsRefusedFix old new by p now (cause.DiskFault before after)

-- the bytes that were read of a page that was not resident are no page of its id
pub record IsUnsound {D : Type 0} (seen : D → DiskSeen) (old new : State D) (by : Caller) (p : PageId) (now : ℕ) (bad : BadPage) : Type 0 where
  pub absent : home old.history p ≡ None
  pub read : IsBadRead ((seen old.disk).told p) p bad
  pub entry : IsRefusedFix old new by p now (cause.BadPage bad)

-- why a page was not loaded
abbrev pub IsLoadRefusal : {D : Type 0} → (D → DiskSeen) → State D → State D → Caller → PageId → ℕ → FixErr → Type 0
IsLoadRefusal seen old new by p now refusal.OutOfMemory = ⊥
IsLoadRefusal seen old new by p now (refusal.NoSuchPage pages) = ⊥
IsLoadRefusal seen old new by p now (refusal.HoldFull held) = ⊥
IsLoadRefusal seen old new by p now (refusal.AllFixed words) = ⊥
IsLoadRefusal seen old new by p now (refusal.RedoFault before after) = ⊥
IsLoadRefusal seen old new by p now (refusal.DiskFault before after) = IsFaulted seen old new by p now before after
IsLoadRefusal seen old new by p now (refusal.BadPage bad) = IsUnsound seen old new by p now bad

-- nothing happened yet
pub record IsNewDesk {D : Type 0} (desk : State D) (config : Config) (instance : ℕ) (disk : D) : Type 0 where
  pub config_is : desk.config ≡ config
  pub instance_is : desk.instance ≡ instance
  pub history : desk.history ≡ []
  pub disk_is : desk.disk ≡ disk
