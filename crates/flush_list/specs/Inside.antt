-- How a `Flush` is kept.
use Rattle.std.specs.Prelude.{ℕ, ◌≤◌, AllPairs, List, map, length, slice_index}
use Rattle.flush_list.specs.declared.flush.Flush.TheInside.{Inside}
use Rattle.flush_list.specs.View.{Node, View}

-- a frame with the oldest LSN that stands at its number
abbrev pub node_of : List ℕ → ℕ → Node
node_of oldest frame = record { frame = frame; oldest = slice_index oldest frame }

-- what is kept as what callers see
abbrev pub view_of : Inside → View
view_of a = record { listed = map (node_of a.oldest.items) a.list.items; room = a.list.room }

-- an oldest LSN for every frame that may come, and those of the listed ones don't rise from the head to the tail
pub record IsKept (a : Inside) : Type 0 where
  pub room : a.list.room ≤ length a.oldest.items
  pub falling : AllPairs (λ x y. y.oldest ≤ x.oldest) (view_of a).listed
