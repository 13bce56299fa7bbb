-- The nodes as plain data: how many there are, and the links of each in every pair.
use Rattle.std.specs.Prelude.{ℕ, ◌≡◌, ◌≢◌, ◌<◌, ◌+◌, ◌*◌, ◌==◌, ◌⊎◌, List, [], ◌∷◌, None, sum_by, slice_index_or, if◌then◌else◌}
use Rattle.link_lists.specs.declared.nodes.Link.{Link}

-- so many nodes, with so many link pairs each; the links of one node stand side by side
pub record Grid : Type 0 where
  pub pairs : ℕ
  pub nodes : ℕ
  pub links : List Link

-- the links of a new node
abbrev pub unlinked : Link
unlinked = record { prev = None; next = None }

-- the neighbours of a node in a pair
abbrev pub link_of : Grid → ℕ → ℕ → Link
link_of g pair node = slice_index_or g.links (node * g.pairs + pair) unlinked

-- how often a node stands in a list
abbrev pub times : ℕ → List ℕ → ℕ
times x xs = sum_by (λ y. if y == x then 1 else 0) xs

-- no link was changed but those of these nodes in this pair
pub record Leaves (pair : ℕ) (old new : Grid) (touched : List ℕ) : Type 0 where
  pub pairs : new.pairs ≡ old.pairs
  pub nodes : new.nodes ≡ old.nodes
  pub links : (q y : ℕ) → q < old.pairs → (q ≢ pair) ⊎ (times y touched ≡ 0)
      → link_of new q y ≡ link_of old q y

-- this node has these links in this pair now, and no other link was changed
pub record IsLinked (old new : Grid) (pair node : ℕ) (link : Link) : Type 0 where
  pub here : link_of new pair node ≡ link
  pub leaves : Leaves pair old new (node ∷ [])
