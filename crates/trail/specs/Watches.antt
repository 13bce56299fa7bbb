-- The watches that stand, as a history says. The newest entry stands first.
use Rattle.std.specs.Prelude.{ℕ, Bool, true, false, not, List, [], ◌∷◌, ◌==◌, ◌&&◌, Option, filter, map, length, if◌then◌else◌}
use Rattle.std.specs.List.{find, list_any}
use Rattle.page_ids.specs.Same.{same_page}
use Rattle.page_ids.specs.declared.ids.PageId.{PageId}
use Rattle.trail.specs.declared.event.Kind.{Kind}
use Rattle.trail.specs.declared.event.Kind.TheVariants as kind
use Rattle.trail.specs.declared.event.Entry.{Entry}

-- who watches for which page, and whether it was read in or made since
pub record Watch : Type 0 where
  pub caller : ℕ
  pub page : PageId
  pub occurred : Bool

-- whether it is this caller's watch for this page
abbrev pub is_watch : ℕ → PageId → Watch → Bool
is_watch c p w = (w.caller == c) && same_page w.page p

-- the caller watches for the page; a watch that stands stays as it is
abbrev pub watched : ℕ → PageId → List Watch → List Watch
watched c p ws = if list_any (is_watch c p) ws then ws else record { caller = c; page = p; occurred = false } ∷ ws

-- a page came, and each watch for it has occurred
abbrev pub occurred_for : PageId → List Watch → List Watch
occurred_for p ws = map (λ (w : Watch). if same_page w.page p then record w { occurred = true } else w) ws

-- a watch is given up
abbrev pub unwatched : ℕ → PageId → List Watch → List Watch
unwatched c p ws = filter (λ w. not (is_watch c p w)) ws

abbrev pub watches_after : ℕ → Kind → List Watch → List Watch
watches_after c (kind.Load p f) ws = occurred_for p ws
watches_after c (kind.Create p f start end now) ws = occurred_for p ws
watches_after c (kind.WatchSet p) ws = watched c p ws
watches_after c (kind.Unwatch p) ws = unwatched c p ws
watches_after c k ws = ws

abbrev pub watches : List Entry → List Watch
watches [] = []
watches (e ∷ h) = watches_after e.caller e.kind (watches h)

-- the caller's watch for the page
abbrev pub watch_of : List Entry → ℕ → PageId → Option Watch
watch_of h c p = find (is_watch c p) (watches h)

-- how many other watches stand
abbrev pub other_watches : List Entry → ℕ → PageId → ℕ
other_watches h c p = length (filter (λ w. not (is_watch c p w)) (watches h))
