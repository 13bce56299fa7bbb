-- Frames that go from one list to another.
use Rattle.std.specs.Prelude.{ℕ}
use Rattle.link_lists.specs.IndexLists.{IndexList, Has, IsNew}

-- each frame of the one list can be put on the other
abbrev pub CanMove : IndexList → IndexList → Type 0
CanMove from to = (f : ℕ) → Has from f → IsNew to f
