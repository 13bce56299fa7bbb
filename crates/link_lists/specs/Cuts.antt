-- A chain between two steps of a change.
use Rattle.std.specs.Prelude.{ℕ, ◌≡◌, ◌≤◌, ◌<◌, List, ◌++◌, Option, None}
use Rattle.link_lists.specs.Grid.{Grid, times}
use Rattle.link_lists.specs.Chains.{Ends, first_or, last_or, AreLinked}

-- the chain is cut into two lists: the first leads to `a`, and the second leads back to `b`
pub record IsCut (g : Grid) (c : Ends) (front back : List ℕ) (a b : Option ℕ) : Type 0 where
  pub pair : c.pair < g.pairs
  pub head : c.head ≡ first_or front a
  pub tail : c.tail ≡ last_or b back
  pub before : AreLinked g c.pair None front a
  pub behind : AreLinked g c.pair b back None
  pub once : (x : ℕ) → times x (front ++ back) ≤ 1
