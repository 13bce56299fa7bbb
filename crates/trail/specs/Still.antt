-- A page that anyone has fixed neither leaves nor moves.
use Rattle.std.specs.Prelude.{List, ◌≡◌, None, IfSome, ⊤}
use Rattle.std.specs.List.{AllByRecursion}
use Rattle.page_ids.specs.declared.ids.PageId.{PageId}
use Rattle.trail.specs.declared.event.Event.{Event}
use Rattle.trail.specs.declared.event.Event.TheVariants as event
use Rattle.trail.specs.Trails.{callers}
use Rattle.trail.specs.Kinds.{departure_in}
use Rattle.trail.specs.Calls.{held_by, newest_fix}

-- no caller has an open fix of the page
abbrev pub IsUnfixed : List Event → PageId → Type 0
IsUnfixed past p = AllByRecursion (λ c. newest_fix (held_by past c) p ≡ None) (callers past)

abbrev pub IsStill : List Event → Event → Type 0
IsStill past (event.Entry e) = IfSome (departure_in e.kind) (λ d. IsUnfixed past d.page)
IsStill past (event.Receipt r) = ⊤
