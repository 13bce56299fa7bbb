-- How a frame is had for a page that is not resident.
use Rattle.std.specs.Prelude.{ℕ, true, false, List, [], ◌∷◌, ◌≡◌, ◌≤◌, ◌<◌, ◌⊎◌, Option, None, Some, IfSome, IsSome, MatchOption, length, slice_set, ⊤}
use Rattle.std.specs.Option.{is_some}
use Rattle.page_ids.specs.Content.{Content}
use Rattle.page_ids.specs.FrameWord.{fixes_of, AreRising}
use Rattle.page_ids.specs.declared.frame_word.Word.{Word}
use Rattle.page_ids.specs.declared.ids.PageId.{PageId}
use Rattle.trail.specs.declared.event.Call.{Call}
use Rattle.trail.specs.declared.event.Call.TheVariants as call
use Rattle.trail.specs.declared.event.Cause.TheVariants as cause
use Rattle.trail.specs.declared.event.Dirty.{Dirty}
use Rattle.trail.specs.declared.event.Entry.{Entry}
use Rattle.trail.specs.declared.event.Kind.TheVariants as kind
use Rattle.trail.specs.History.{home}
use Rattle.trail.specs.Book.{book, frame_in_turn}
use Rattle.trail.specs.Dirt.{dirty, dirt_of, is_dirty}
use Rattle.trail.specs.Victim.{IsSought, AreAllFixed}
use Rattle.frame_words.specs.Rows.{Row, IsFound, claimed_row}
use Rattle.frame_words.specs.Seen.{FramesSeen}
use Rattle.desk.specs.Ledger.{entry_behind}
use Rattle.desk.specs.State.{State}
use Rattle.desk.specs.Reads.{RoseWithin}
use Rattle.desk.specs.Steps.{row_in, RefusesCall}
use Rattle.desk.specs.declared.calls.Caller.{Caller}
use Rattle.desk.specs.declared.calls.FrameErr.{FrameErr}
use Rattle.desk.specs.declared.calls.FrameErr.TheVariants as refusal

-- each word was found on its frame, which this holder didn't visit, and has a fix
abbrev pub AreFoundOn : List Row → List (ℕ × Word) → Type 0
AreFoundOn rows [] = ⊤
AreFoundOn rows (x ∷ xs) = IsFound (row_in rows x.0) 0 x.1 × (0 < fixes_of x.1) × AreFoundOn rows xs

-- a dirty page was written, with its newest LSN; the log was durable up to there at least
pub record IsWrittenBack (first : ℕ) (by : Caller) (p : PageId) (old new : List Entry) : Type 0 where
  pub dirt : Dirty
  pub upto : ℕ
  pub was_dirty : dirt_of (dirty old) p ≡ Some dirt
  pub covered : dirt.newest ≤ upto
  pub entry : new ≡ entry_behind first old by (kind.Write p dirt.newest upto) ∷ old

-- the victim was clean, or it was written first
abbrev pub IsCleanedFirst : ℕ → Caller → PageId → List Entry → List Entry → Type 0
IsCleanedFirst first by p old new = ((is_dirty old p ≡ false) × (new ≡ old)) ⊎ IsWrittenBack first by p old new

-- A page left its frame, which had no fixes.
pub record IsEvicted {D : Type 0} (old new : State D) (rows rows' : List Row) (by : Caller) (f : ℕ) : Type 0 where
  pub page : PageId
  pub passed : List (ℕ × Word)
  pub mid : List Entry
  pub image : Option (Option Content)
  pub none_free : frame_in_turn (book old.config old.history) ≡ None
  pub sought : IsSought old.config old.history page passed
  pub found : AreFoundOn rows passed
  pub rising : AreRising passed
  pub housed : home old.history page ≡ Some f
  pub unfixed : IfSome (row_in rows f).held (λ held. held ≡ 0)
  pub cleaned : IsCleanedFirst old.config.first by page old.history mid
  -- a clean page leaves without a use of the disk
  pub unused : is_dirty old.history page ≡ false → new.disk ≡ old.disk
  pub history : new.history ≡ entry_behind old.config.first mid by (kind.Evict page f passed) ∷ mid
  pub config : new.config ≡ old.config
  pub instance : new.instance ≡ old.instance
  pub rows_are : rows' ≡ slice_set rows f (claimed_row (row_in rows f) image)

-- a frame was free, and nothing happened
pub record WasFree {D : Type 0} (old new : State D) (rows rows' : List Row) (f : ℕ) : Type 0 where
  pub front : frame_in_turn (book old.config old.history) ≡ Some f
  pub same : new ≡ old
  pub rows_are : rows' ≡ rows

-- A frame is had: the next one, in which no page is at home.
abbrev pub IsHad : {D : Type 0} → State D → State D → List Row → List Row → Caller → ℕ → Type 0
IsHad old new rows rows' by f = WasFree old new rows rows' f ⊎ IsEvicted old new rows rows' by f

-- no frame was free, and each one was found with a fix
pub record IsFull {D : Type 0} (old : State D) (rows : List Row) (p : PageId) (seen : List (ℕ × Word)) : Type 0 where
  pub all : AreAllFixed old.config old.history p seen
  pub none_free : frame_in_turn (book old.config old.history) ≡ None
  pub found : AreFoundOn rows seen
  pub rising : AreRising seen

-- the caller goes on with its turn, with the same open fixes; what was told still is
pub record LeavesTurn (old new : FramesSeen) : Type 0 where
  pub turn : new.turn ≡ old.turn
  pub opened : new.opened ≡ old.opened
  pub history : is_some new.history ≡ is_some old.history
  pub base : new.base ≡ old.base

-- The content of a resident frame's image is told exactly where its fixes are: others can only then not change it.
abbrev pub IsRowSettled : Row → Type 0
IsRowSettled r = MatchOption r.held (IfSome r.image (λ told. told ≡ None)) (λ held. IfSome r.image (λ told. IsSome told))

abbrev pub AreSettled : List Row → Type 0
AreSettled rows = (f : ℕ) → f < length rows → (row_in rows f).resident ≡ true → IsRowSettled (row_in rows f)

-- A page has to be written before a frame is had: no frame is free, and the victim is dirty.
pub record MustWrite {D : Type 0} (old : State D) (rows : List Row) : Type 0 where
  pub victim : PageId
  pub frame : ℕ
  pub passed : List (ℕ × Word)
  pub none_free : frame_in_turn (book old.config old.history) ≡ None
  pub sought : IsSought old.config old.history victim passed
  pub found : AreFoundOn rows passed
  pub housed : home old.history victim ≡ Some frame
  pub unfixed : IfSome (row_in rows frame).held (λ held. held ≡ 0)
  pub soiled : is_dirty old.history victim ≡ true

-- the page's newest change is behind the log's durable mark
pub record IsAhead (h : List Entry) (p : PageId) (durable : ℕ) : Type 0 where
  pub dirt : Dirty
  pub was_dirty : dirt_of (dirty h) p ≡ Some dirt
  pub behind : durable < dirt.newest

-- The log has to be made durable before a frame is had: the page that has to be written was changed behind the durable mark.
pub record MustCover {D : Type 0} (old : State D) (rows : List Row) (durable : ℕ) : Type 0 where
  pub write : MustWrite old rows
  pub ahead : IsAhead old.history write.victim durable

-- the call takes a frame for this page
abbrev pub AsksFor : PageId → Call → Type 0
AsksFor p (call.Fix q now) = q ≡ p
AsksFor p (call.Create q now) = q ≡ p
AsksFor p (call.Put q at bytes) = ⊥
AsksFor p (call.Read q at len) = ⊥
AsksFor p (call.Unfix q) = ⊥
AsksFor p (call.Guess q f clock) = ⊥
AsksFor p (call.Watch q) = ⊥
AsksFor p (call.Occurred q) = ⊥
AsksFor p (call.Unwatch q) = ⊥
AsksFor p (call.Clean bound) = ⊥
AsksFor p call.Check = ⊥
AsksFor p (call.Dump pct) = ⊥
AsksFor p (call.Resize bytes rounds) = ⊥

-- Why no frame was had, and what stands then; the devices' counts of faults went from the first to the second, and the log was durable up to `durable`.
abbrev pub IsUnhad : {D : Type 0} → State D → State D → List Row → Caller → PageId → Call → ℕ → ℕ → ℕ → ℕ → ℕ → FrameErr → Type 0
IsUnhad old new rows by p asked disk_was disk_is durable log_was log_is refusal.OutOfMemory = new ≡ old
IsUnhad old new rows by p asked disk_was disk_is durable log_was log_is (refusal.AllFixed seen) =
    IsFull old rows p seen × RefusesCall old new by asked (cause.AllFixed seen) × (new.disk ≡ old.disk)
IsUnhad old new rows by p asked disk_was disk_is durable log_was log_is (refusal.RedoFault before after) =
    RoseWithin log_was log_is before after × RefusesCall old new by asked (cause.RedoFault before after) × MustCover old rows durable × (new.disk ≡ old.disk)
IsUnhad old new rows by p asked disk_was disk_is durable log_was log_is (refusal.DiskFault before after) =
    RoseWithin disk_was disk_is before after × RefusesCall old new by asked (cause.DiskFault before after) × MustWrite old rows

-- the log is as it was where no device failed
abbrev pub IsUnforced : {L : Type 0} → L → L → FrameErr → Type 0
IsUnforced old new refusal.OutOfMemory = new ≡ old
IsUnforced old new (refusal.AllFixed seen) = new ≡ old
IsUnforced old new (refusal.RedoFault before after) = ⊤
IsUnforced old new (refusal.DiskFault before after) = ⊤
