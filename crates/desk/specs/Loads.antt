-- What a desk's own steps of a fix need, and what reading a page into a frame leaves.
use Rattle.std.specs.Prelude.{ℕ, List, [], ◌≡◌, ◌<◌, ◌≤◌, ◌+◌, Option, None, Some, IfSome, length, replicate, slice_index_or}
use Rattle.page_ids.specs.Content.{Content}
use Rattle.page_ids.specs.Layout.{IsPage}
use Rattle.page_ids.specs.declared.ids.PageId.{PageId}
use Rattle.page_ids.specs.declared.limits.TheConstants.{MOST_FIXES}
use Rattle.redo_mark.specs.Logs.{Seen}
use Rattle.trail.specs.Words.{cause_words}
use Rattle.trail.specs.Dirt.{log_end}
use Rattle.trail.specs.declared.event.Call.{Call}
use Rattle.trail.specs.declared.event.Cause.{Cause}
use Rattle.trail.specs.declared.event.Entry.{Entry}
use Rattle.frame_words.specs.Appends.{FitsRefusal}
use Rattle.frame_words.specs.Rows.{laid_row, new_row}
use Rattle.frame_words.specs.Plain.{Plain}
use Rattle.frame_words.specs.Seen.{FramesSeen, row_at, with_row}
use Rattle.desk.specs.Logged.{IsLogged, AreUpTo}
use Rattle.desk.specs.State.{State}
use Rattle.desk.specs.Tied.{HasTurn, IsOwn}
use Rattle.desk.specs.declared.calls.Caller.{Caller}

-- the caller has the turn, the page is one of its instance, and one fix more may be open
pub record MayFix {D : Type 0} (s : FramesSeen) (desk : State D) (by : Caller) (p : PageId) : Type 0 where
  pub turn : HasTurn s by
  pub own : IsOwn s desk p
  pub few : IfSome s.opened (λ opened. length opened < MOST_FIXES)

-- the page was read from the disk into the frame's image
pub record IsRead (told : Option (List ℕ)) (old new : FramesSeen) (p : PageId) (f : ℕ) : Type 0 where
  pub content : Content
  pub read : IfSome told (λ bytes. IsPage p bytes content)
  pub seen : new ≡ with_row old f (laid_row (row_at old f) content)

-- the frame's image is the page as the disk has it
pub record IsInImage (told : Option (List ℕ)) (s : FramesSeen) (p : PageId) (f : ℕ) (content : Content) : Type 0 where
  pub image : (row_at s f).image ≡ Some (Some content)
  pub read : IfSome told (λ bytes. IsPage p bytes content)

-- the cause has no word, and may refuse this call of a caller with these open fixes
pub record MayRefuseWordless (s : FramesSeen) (asked : Call) (why : Cause) : Type 0 where
  pub words : cause_words asked why ≡ []
  pub fits : IfSome s.opened (λ opened. FitsRefusal opened asked why)

-- one entry came, which tells nothing of the log
pub record IsOneMore (old new : List Entry) : Type 0 where
  pub count : length new ≡ length old + 1
  pub logged : (log : Seen) → IsLogged log old → IsLogged log new
  pub ends : log_end new ≡ log_end old
  pub upto : (mark : ℕ) (h : List Entry) → AreUpTo mark h old → AreUpTo mark h new

-- so many frames of one thread that were never used; the first ones, as many as were laid, have a blank image
pub record AreBlank (size laid count : ℕ) (frames : Plain) : Type 0 where
  pub count_is : length frames.rows ≡ count
  pub unvisited : frames.visit ≡ None
  pub none_owed : frames.owed ≡ None
  pub blank : (f : ℕ) → f < laid → slice_index_or frames.rows f new_row ≡ laid_row new_row (record { lsn = 0; bytes = replicate size 0 })
  pub bare : (f : ℕ) → laid ≤ f → slice_index_or frames.rows f new_row ≡ new_row
