-- The pages of the LRU list as a walk from the tail meets them, and what the lists know of their history.
use Rattle.std.specs.Prelude.{ℕ, Bool, true, false, not, List, [], ◌∷◌, ◌≡◌, ◌==◌, ◌<◌, ◌≤◌, Option, None, Some, is_some, filter, if◌then◌else◌}
use Rattle.std.specs.Option.{option_map_or}
use Rattle.page_ids.specs.Chunks.{rising}
use Rattle.page_ids.specs.Midpoint.{count_of}
use Rattle.page_ids.specs.Same.{same_page}
use Rattle.page_ids.specs.declared.ids.PageId.{PageId}
use Rattle.page_ids.specs.declared.config.Config.{Config}
use Rattle.trail.specs.declared.event.Dirty.{Dirty}
use Rattle.trail.specs.declared.event.Entry.{Entry}
use Rattle.trail.specs.History.{home}
use Rattle.trail.specs.Dirt.{dirty, dirt_of, is_dirty, log_end}
use Rattle.trail.specs.Order.{order}
use Rattle.trail.specs.Book.{book, frames_there}
use Rattle.trail.specs.Victim.{from_the_tail}

-- whether the page is in the frame
abbrev pub is_in_frame : List Entry → ℕ → PageId → Bool
is_in_frame h f p = option_map_or (λ g. g == f) (home h p) false

-- the frame of the first of these pages
abbrev pub first_home : List Entry → List PageId → Option ℕ
first_home h [] = None
first_home h (p ∷ ps) = home h p

-- the frame of the page behind that in the frame; of the first one where no frame is given
abbrev pub next_home : List Entry → Option ℕ → List PageId → Option ℕ
next_home h None ps = first_home h ps
next_home h (Some f) [] = None
next_home h (Some f) (p ∷ ps) = if is_in_frame h f p then first_home h ps else next_home h (Some f) ps

-- whether the page is dirty, or is clean
abbrev pub test_of : List Entry → Bool → PageId → Bool
test_of h true p = is_dirty h p
test_of h false p = not (is_dirty h p)

-- the dirty pages from the tail, or the clean ones
abbrev pub part_of : Config → List Entry → Bool → List PageId
part_of c h soiled = filter (test_of h soiled) (from_the_tail c h)

-- the frame where such a search begins: at the tail; nowhere where there are no such pages
abbrev pub start_of : List PageId → Option ℕ → Option ℕ
start_of [] tail = None
start_of (p ∷ ps) tail = tail

abbrev pub first_tried : Config → List Entry → Bool → Option ℕ
first_tried c h soiled = start_of (part_of c h soiled) (first_home h (from_the_tail c h))

-- What the lists know of their history.
pub record AreOrderly (c : Config) (h : List Entry) : Type 0 where
  -- each resident page is listed once, and no other page
  pub listed : (p : PageId) → count_of (λ q. same_page q p) (order c h).listed ≡ (if is_some (home h p) then 1 else 0)
  -- a page has its frame alone
  pub alone : (p q : PageId) (f : ℕ) → home h p ≡ Some f → home h q ≡ Some f → q ≡ p
  pub below : (p : PageId) (f : ℕ) → home h p ≡ Some f → f < c.frames
  -- a dirty page's last change is in the log
  pub logged : (p : PageId) (d : Dirty) → dirt_of (dirty h) p ≡ Some d → d.newest ≤ log_end h
  -- no chunk is being withdrawn, and the frames are those of the one chunk
  pub no_area : (book c h).area ≡ None
  pub there : frames_there c.frames (book c h) ≡ rising 0 c.frames
