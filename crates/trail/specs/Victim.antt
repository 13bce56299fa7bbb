-- Which page leaves for another one (buf0lru's `buf_LRU_get_free_block`), and when none can.
use Rattle.std.specs.Prelude.{ℕ, Bool, false, not, List, [], ◌∷◌, ◌++◌, ◌≡◌, ◌==◌, ◌&&◌, Option, None, Some, IsSomeAnd, IsTrue, filter, length, map, reverse, ⊤, if◌then◌else◌}
use Rattle.std.specs.List.{AllByRecursion, list_any}
use Rattle.std.specs.Option.{option_map, option_map_or}
use Rattle.page_ids.specs.Midpoint.{Listed}
use Rattle.page_ids.specs.Same.{same_page}
use Rattle.page_ids.specs.declared.config.Config.{Config}
use Rattle.page_ids.specs.declared.frame_word.Word.{Word}
use Rattle.page_ids.specs.declared.ids.PageId.{PageId}
use Rattle.trail.specs.declared.event.Kind.{Kind}
use Rattle.trail.specs.declared.event.Kind.TheVariants as kind
use Rattle.trail.specs.declared.event.Entry.{Entry}
use Rattle.trail.specs.declared.event.Event.{Event}
use Rattle.trail.specs.declared.event.Event.TheVariants as event
use Rattle.trail.specs.Trails.{Opening}
use Rattle.trail.specs.Kinds.{Writing, write_in}
use Rattle.trail.specs.History.{home}
use Rattle.trail.specs.Dirt.{is_dirty}
use Rattle.trail.specs.Order.{order}
use Rattle.trail.specs.Book.{book, is_in, frames_there}
use Rattle.trail.specs.Words.{frames_told, AreFixedWords}

-- the resident pages from the LRU tail towards the head
abbrev pub from_the_tail : Config → List Entry → List PageId
from_the_tail c h = reverse (map (λ (x : Listed PageId). x.key) (order c h).listed)

-- The pages in the order in which a victim is sought: the clean ones from the tail, then the dirty ones from the tail.
abbrev pub walk : Config → List Entry → List PageId
walk c h = filter (λ p. not (is_dirty h p)) (from_the_tail c h) ++ filter (λ p. is_dirty h p) (from_the_tail c h)

-- the pages before this one in the walk, where it is there
abbrev pub before_of : PageId → List PageId → Option (List PageId)
before_of p [] = None
before_of p (q ∷ pages) = if same_page q p then Some [] else option_map (λ ahead. q ∷ ahead) (before_of p pages)

-- whether the frame is the home of one of these pages
abbrev pub is_home_of : List Entry → List PageId → ℕ → Bool
is_home_of h pages f = list_any (λ q. option_map_or (λ g. g == f) (home h q) false) pages

-- the words are those of just these pages, each found on its page's home
pub record ArePassed (h : List Entry) (pages : List PageId) (passed : List (ℕ × Word)) : Type 0 where
  pub each : AllByRecursion (λ q. IsSomeAnd (home h q) (λ f. IsTrue (is_in f (frames_told passed)))) pages
  pub only : AllByRecursion (λ f. IsTrue (is_home_of h pages f)) (frames_told passed)
  pub fixed : AreFixedWords h passed

-- the history before the call's own write of the page, where that is the newest entry
abbrev pub before_write : ℕ → ℕ → PageId → List Entry → List Entry
before_write c n p [] = []
before_write c n p (e ∷ h) = if (e.caller == c) && (e.number == n) && option_map_or (λ (w : Writing). same_page w.page p) (write_in e.kind) false then h else e ∷ h

-- The page that leaves is the first one of the walk that had no fixes: each page before it was passed. No frame was free.
pub record IsSought (c : Config) (h : List Entry) (p : PageId) (passed : List (ℕ × Word)) : Type 0 where
  pub none_free : (book c h).free ≡ []
  pub passed_are : IsSomeAnd (before_of p (walk c h)) (λ ahead. ArePassed h ahead passed)

-- An evict by this call, judged by the state before the call's own write of the page.
pub record IsVictimOf (c : Config) (h : List Entry) (caller number : ℕ) (p : PageId) (f : ℕ) (passed : List (ℕ × Word)) : Type 0 where
  pub sought : IsSought c (before_write caller number p h) p passed
  pub clean : is_dirty h p ≡ false
  pub housed : home h p ≡ Some f

abbrev pub IsVictimKind : Config → List Entry → ℕ → ℕ → Kind → Type 0
IsVictimKind c h caller number (kind.Evict p f passed) = IsVictimOf c h caller number p f passed
IsVictimKind c h caller number _ = ⊤

abbrev pub IsVictim : Opening → List Entry → Event → Type 0
IsVictim o h (event.Entry e) = IsVictimKind o.config h e.caller e.number e.kind
IsVictim o h (event.Receipt r) = ⊤

-- just these frames, which are apart, each one once and in whatever order
pub record AreJust (frames told : List ℕ) : Type 0 where
  pub each : AllByRecursion (λ f. IsTrue (is_in f told)) frames
  pub count : length told ≡ length frames

-- No frame was free, and each one was found with a fix.
pub record AreAllFixed (c : Config) (h : List Entry) (p : PageId) (seen : List (ℕ × Word)) : Type 0 where
  pub absent : home h p ≡ None
  pub none_free : (book c h).free ≡ []
  pub frames : AreJust (frames_there c.frames (book c h)) (frames_told seen)
  pub fixed : AreFixedWords h seen
