-- Watches as a plain list, and what each call makes of it.
use Rattle.std.specs.Prelude.{ℕ, Bool, false, not, List, [], ◌∷◌, ◌++◌, Option, ◌≤◌, ◌==◌, ◌&&◌, ◌||◌, map, filter, find, count_by, length, if◌then◌else◌}
use Rattle.std.specs.List.{list_any}
use Rattle.std.specs.Option.{option_map}
use Rattle.page_ids.specs.Same.{same_page}
use Rattle.page_ids.specs.declared.ids.PageId.{PageId}
use Rattle.page_ids.specs.declared.limits.TheConstants.{MOST_WATCHES}
use Rattle.watches.specs.declared.list.Watched.{Watched}

-- the watch is this caller's, of this page
abbrev pub is_of : ℕ → PageId → Watched → Bool
is_of caller page w = (w.caller == caller) && same_page w.page page

-- the watch is of this page
abbrev pub is_on : PageId → Watched → Bool
is_on page w = same_page w.page page

-- whether the caller watches the page
abbrev pub stands : ℕ → PageId → List Watched → Bool
stands caller page ws = list_any (is_of caller page) ws

-- whether the pair's watch has occurred; none where it has no watch
abbrev pub occurrence : ℕ → PageId → List Watched → Option Bool
occurrence caller page ws = option_map (λ w. w.occurred) (find (is_of caller page) ws)

-- a watch is set: one that stands already stays as it is
abbrev pub with_watch : ℕ → PageId → List Watched → List Watched
with_watch caller page ws = if stands caller page ws then ws else ws ++ record { caller = caller; page = page; occurred = false } ∷ []

-- a watch behind the page's coming: one of this page has occurred
abbrev pub come : PageId → Watched → Watched
come page w = record w { occurred = w.occurred || is_on page w }

-- the page comes
abbrev pub after_arrival : PageId → List Watched → List Watched
after_arrival page ws = map (come page) ws

-- how many watch the page
abbrev pub watches_on : PageId → List Watched → ℕ
watches_on page ws = count_by (is_on page) ws

-- the pair's watch is taken back
abbrev pub without_watch : ℕ → PageId → List Watched → List Watched
without_watch caller page ws = filter (λ w. not (is_of caller page w)) ws

-- no pair has two watches, and there are no more than may be
pub record IsInOrder (ws : List Watched) : Type 0 where
  pub once : (caller : ℕ) (page : PageId) → count_by (is_of caller page) ws ≤ 1
  pub few : length ws ≤ MOST_WATCHES
