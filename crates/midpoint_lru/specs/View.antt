-- What callers see of an LRU list.
use Rattle.std.specs.Prelude.{ℕ, List, Option, None, Some, ◌<◌, ◌-◌, ◌==◌, length, slice_get, if◌then◌else◌}
use Rattle.std.specs.Option.{option_map}
use Rattle.page_ids.specs.Midpoint.{Numbers, Listed, Order, IsListed, place_of}

-- its numbers, its frames in order, and the room: frames below it can be listed
pub record View : Type 0 where
  pub numbers : Numbers
  pub order : Order ℕ
  pub room : ℕ

-- the frame is listed
abbrev pub Has : View → ℕ → Type 0
Has v frame = IsListed ◌==◌ frame v.order

-- there is room for the frame, and it is not listed
pub record IsNew (v : View) (frame : ℕ) : Type 0 where
  pub room : frame < v.room
  pub away : ¬ Has v frame

-- the place of a frame, and for none the one behind the tail
abbrev pub place_up_to : Option ℕ → List (Listed ℕ) → ℕ
place_up_to None xs = length xs
place_up_to (Some frame) xs = place_of ◌==◌ frame xs

-- the tail, or the frame next to one towards the head; none in front of the head
abbrev pub next_up : Option ℕ → List (Listed ℕ) → Option ℕ
next_up after xs = let i = place_up_to after xs in if i == 0 then None else option_map (λ x. x.key) (slice_get xs (i - 1))
