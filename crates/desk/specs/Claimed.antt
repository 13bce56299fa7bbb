-- What is known while a victim is sought, and while its frame is claimed and no entry says so.
use Rattle.std.specs.Prelude.{ℕ, true, false, List, ◌∷◌, ◌++◌, ◌≡◌, ◌<◌, ◌≤◌, ◌*◌, ◌^◌, Option, None, Some, IfSome, IsSome, Contains, length, map}
use Rattle.page_ids.specs.Instances.{instance_of}
use Rattle.page_ids.specs.Content.{Content}
use Rattle.page_ids.specs.Same.{same_page}
use Rattle.page_ids.specs.Size.{page_bytes}
use Rattle.page_ids.specs.declared.frame_word.Word.{Word}
use Rattle.page_ids.specs.declared.ids.PageId.{PageId}
use Rattle.page_ids.specs.declared.limits.TheConstants.{CLOCK_BITS}
use Rattle.page_disk.specs.Disks.{DiskSeen, Fades}
use Rattle.redo_mark.specs.Device.{RedoSeen}
use Rattle.redo_mark.specs.Logs as log
use Rattle.redo_mark.specs.Logs.{Seen, IsLater, IsKept}
use Rattle.trail.specs.declared.event.Cause.{Cause}
use Rattle.trail.specs.declared.event.Cause.TheVariants as cause
use Rattle.trail.specs.declared.event.Dirty.{Dirty}
use Rattle.trail.specs.declared.event.Entry.{Entry}
use Rattle.trail.specs.History.{home, change}
use Rattle.trail.specs.Book.{book, frame_in_turn}
use Rattle.trail.specs.Dirt.{dirty, dirt_of, is_dirty, log_end}
use Rattle.trail.specs.Words.{AreFixedWords}
use Rattle.frame_words.specs.Conditions.{IsUncovered, FindsUnfixed, AreFound}
use Rattle.frame_words.specs.Rows.{Row, claimed_row}
use Rattle.frame_words.specs.Seen.{FramesSeen, row_at, with_row}
use Rattle.desk.specs.Base.{Opened}
use Rattle.desk.specs.Behind.{IsBehind}
use Rattle.desk.specs.Changes.{IsImageTold, IsWriteFault, IsForced, LeavesDesk}
use Rattle.desk.specs.Logged.{IsLogged, IsMarkBehind, AreUpTo}
use Rattle.desk.specs.State.{State, DeskWithRoom}
use Rattle.desk.specs.Tied.{IsTied, AreStamped}
use Rattle.desk.specs.Victims.{AreFoundOn, IsAhead, IsCleanedFirst, LeavesTurn}
use Rattle.desk.specs.declared.calls.Caller.{Caller}
use Rattle.desk.specs.declared.calls.FrameErr.{FrameErr}
use Rattle.desk.specs.declared.calls.FrameErr.TheVariants as refusal
use Rattle.desk.specs.declared.flush.WriteErr.{WriteErr}
use Rattle.desk.specs.declared.flush.WriteErr.TheVariants as unwritten

-- more words may have been found, and nothing else happened
pub record HasLooked (old new : FramesSeen) : Type 0 where
  pub found : Option (List (ℕ × Word))
  pub is : new ≡ record old { found = found }
  pub more : (now : List (ℕ × Word)) → found ≡ Some now
      → (was : List (ℕ × Word)) × (old.found ≡ Some was) × ((w : ℕ × Word) → Contains was w → Contains now w)

-- the frame was claimed, on which a word without fixes was found
pub record IsClaimed (old new : FramesSeen) (f : ℕ) : Type 0 where
  pub mid : FramesSeen
  pub looked : HasLooked old mid
  pub image : Option (Option Content)
  pub uncovered : IsUncovered mid f image
  pub unfixed : FindsUnfixed mid f
  pub is : new ≡ with_row mid f (claimed_row (row_at mid f) image)

-- a page's frame was claimed, which had this clock
pub record IsTaken (old new : FramesSeen) (h : List Entry) (p : PageId) (f clock : ℕ) : Type 0 where
  pub claimed : IsClaimed old new f
  pub housed : home h p ≡ Some f
  pub clock_is : clock ≡ (row_at old f).clock
  pub early : clock < 2 ^ CLOCK_BITS

-- These pages were passed in turn, with the words that were found on their frames.
pub record ArePassedBy (h : List Entry) (rows : List Row) (found : Option (List (ℕ × Word))) (pages : List PageId) (passed : List (ℕ × Word)) : Type 0 where
  pub homes : map (home h) pages ≡ map (λ (x : ℕ × Word). Some x.0) passed
  pub fixed : AreFixedWords h passed
  pub seen : AreFoundOn rows passed
  pub noted : IfSome found (λ now. AreFound now passed)

-- the page is the first of these whose frame had no fixes
pub record StopsAt (h : List Entry) (rows : List Row) (found : Option (List (ℕ × Word))) (pages : List PageId) (p : PageId) (passed : List (ℕ × Word)) : Type 0 where
  pub before : List PageId
  pub after : List PageId
  pub split : pages ≡ before ++ p ∷ after
  pub passed_are : ArePassedBy h rows found before passed

-- Frames that are tied to a desk but for one: the page's frame is claimed, and no entry says so.
pub record AreTiedBut {D : Type 0} (seen : D → DiskSeen) (s : FramesSeen) (desk : State D) (p : PageId) (f : ℕ) : Type 0 where
  pub count : length s.rows ≡ desk.config.frames * desk.config.max
  pub whole : desk.config.frames ≤ length s.rows
  pub housed : home desk.history p ≡ Some f
  pub alone : (q : PageId) → home desk.history q ≡ Some f → q ≡ p
  pub below : f < desk.config.frames
  pub none_free : frame_in_turn (book desk.config desk.history) ≡ None
  pub no_area : (book desk.config desk.history).area ≡ None
  pub rows : (g : ℕ) → g < length s.rows → (g ≡ f → ⊥) → IsTied (page_bytes desk.config.page) desk.config.frames desk.history (row_at s g) g
  -- the claimed frame keeps its clock, and has its page's image
  pub away : (row_at s f).resident ≡ false
  pub unlatched : (row_at s f).latched ≡ false
  pub clock : (row_at s f).clock ≡ change desk.history f
  pub content : Content
  pub image : (row_at s f).image ≡ Some (Some content)
  pub sized : length content.bytes ≡ page_bytes desk.config.page
  pub shared : (g : ℕ) → g < length s.rows → (row_at s g).held ≡ None → IsSome s.history × IsSome s.base
  pub stamped : AreStamped desk.history s
  pub unvisited : s.visit ≡ None
  pub none_owed : s.owed ≡ None
  pub history : IfSome s.history (λ h. h ≡ record { config = desk.config; instance = desk.instance; entries = desk.history })
  pub known : (g : ℕ) → g < length s.rows → (row_at s g).image ≡ Some None → IsSome s.history × IsSome s.base
  pub own : IsSome s.history → (q : PageId) (g : ℕ) → home desk.history q ≡ Some g → instance_of q desk.config.instances ≡ desk.instance
  pub valued : IfSome s.base (λ base. (o : Opened) × (o.base ≡ base) × IsBehind seen o desk s)

-- The log goes on, and has of the new history what it had of the old one.
pub record KeepsLog {R : Type 0} (log_seen : R → RedoSeen) (old new : log.State R) (h k : List Entry) : Type 0 where
  pub later : IsLater old.seen new.seen
  pub opening : new.opening ≡ old.opening
  pub kept : IsKept old.seen (log_seen old.disk).told → IsKept new.seen (log_seen new.disk).told
  pub logged : IsLogged old.seen h → IsLogged new.seen k
  pub known : log_end h ≤ old.seen.end → log_end k ≤ new.seen.end
  pub end : new.seen.end ≡ old.seen.end
  pub upto : AreUpTo new.seen.durable h k
  pub mark : IsMarkBehind old.seen new.seen.durable

-- The page of a claimed frame was written with the LSN of its newest change, behind a log that is durable up to here.
pub record WroteClaimed (disk now : DiskSeen) (log : Seen) (h : List Entry) (image : Option (Option Content)) (p : PageId) (w : ℕ × ℕ) : Type 0 where
  pub dirt : Dirty
  pub was_dirty : dirt_of (dirty h) p ≡ Some dirt
  pub lsn_is : w.0 ≡ dirt.newest
  pub covered : dirt.newest ≤ w.1
  pub upto_is : w.1 ≡ log.durable
  pub told : (c : Content) → image ≡ Some (Some c) → IsImageTold p c disk now

-- It could not be: the log, which was not durable up to that LSN, failed before the disk was used; or the disk did.
pub record UnwroteClaimed {D : Type 0} (seen : D → DiskSeen) (old : State D) (disk : D) (log now : Seen) (p : PageId) (e : WriteErr) : Type 0 where
  pub fades : Fades ((seen old.disk).told p) ((seen disk).told p)
  pub fault : IsWriteFault (seen old.disk).faults (seen disk).faults log.faults now.faults e
  pub forced : IsForced old.disk disk (IsAhead old.history p log.durable) e

-- the page of a claimed frame is clean, and was written where it was dirty
pub record CleanedClaimed {D : Type 0} (old new : State D) (by : Caller) (p : PageId) : Type 0 where
  pub cleaned : IsCleanedFirst old.config.first by p old.history new.history
  pub clean : is_dirty new.history p ≡ false

-- it is as dirty as it was, and nothing but the disk has changed
pub record UncleanedClaimed {D : Type 0} (seen : D → DiskSeen) (old new : DeskWithRoom D) (log now : Seen) (p : PageId) (e : WriteErr) : Type 0 where
  pub failed : new ≡ record old { state = record old.state { disk = new.state.disk } }
  pub soiled : is_dirty old.state.history p ≡ true
  pub fault : IsWriteFault (seen old.state.disk).faults (seen new.state.disk).faults log.faults now.faults e
  pub forced : IsForced old.state.disk new.state.disk (IsAhead old.state.history p log.durable) e
  pub stands : (o : Opened) (s : FramesSeen) → IsBehind seen o old.state s → IsBehind seen o new.state s

-- Either way the frame is still claimed, and no other page was written.
pub record LeavesClaimed {D : Type 0} (seen : D → DiskSeen) (old new : State D) (s t : FramesSeen) (p : PageId) (f : ℕ) : Type 0 where
  pub but : AreTiedBut seen t new p f
  pub rows : t.rows ≡ s.rows
  pub found : t.found ≡ s.found
  pub turn : LeavesTurn s t
  pub desk : LeavesDesk seen old new
  pub unused : is_dirty old.history p ≡ false → new.disk ≡ old.disk
  pub others : (q : PageId) → same_page p q ≡ false → (seen new.disk).told q ≡ (seen old.disk).told q
  pub behind : (o : Opened) → IsBehind seen o old s → IsBehind seen o new t

-- why no frame is had whose victim could not be written
abbrev pub cause_of : WriteErr → Cause
cause_of (unwritten.RedoFault before after) = cause.RedoFault before after
cause_of (unwritten.DiskFault before after) = cause.DiskFault before after

abbrev pub refusal_of : WriteErr → FrameErr
refusal_of (unwritten.RedoFault before after) = refusal.RedoFault before after
refusal_of (unwritten.DiskFault before after) = refusal.DiskFault before after
