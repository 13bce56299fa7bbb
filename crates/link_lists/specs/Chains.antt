-- Chains over nodes, and the list that each is.
use Rattle.std.specs.Prelude.{ℕ, zero, suc, ◌≡◌, ◌≢◌, ◌≤◌, ◌<◌, ◌⊎◌, List, [], ◌∷◌, ◌++◌, Option, Some, None, max}
use Rattle.link_lists.specs.Grid.{Grid, link_of, times}

-- what a chain keeps: the pair in which its nodes are linked, and its two ends
pub record Ends : Type 0 where
  pub pair : ℕ
  pub head : Option ℕ
  pub tail : Option ℕ

-- the first of a list, or what stands beyond it
abbrev pub first_or : List ℕ → Option ℕ → Option ℕ
first_or [] beyond = beyond
first_or (x ∷ xs) beyond = Some x

-- the last of a list, or what stands before it
abbrev pub last_or : Option ℕ → List ℕ → Option ℕ
last_or before [] = before
last_or before (x ∷ xs) = last_or (Some x) xs

-- the first of a list, where there is one
abbrev pub first : List ℕ → Option ℕ
first xs = first_or xs None

-- the last of a list, where there is one
abbrev pub last : List ℕ → Option ℕ
last xs = last_or None xs

-- these nodes are there, each linked in this pair with those beside it, between `before` and `beyond`
abbrev pub AreLinked : Grid → ℕ → Option ℕ → List ℕ → Option ℕ → Type 0
AreLinked g pair before [] beyond = Unit {0}
AreLinked g pair before (x ∷ xs) beyond =
    (x < g.nodes) × (link_of g pair x ≡ record { prev = before; next = first_or xs beyond })
    × AreLinked g pair (Some x) xs beyond

-- the chain is this list: its ends are the list's, its nodes are linked in its pair, and each stands once
pub record IsChain (g : Grid) (c : Ends) (xs : List ℕ) : Type 0 where
  pub pair : c.pair < g.pairs
  pub head : c.head ≡ first xs
  pub tail : c.tail ≡ last xs
  pub linked : AreLinked g c.pair None xs None
  pub once : (x : ℕ) → times x xs ≤ 1

-- the nodes that are met from this one on, in this pair, and so many at most
abbrev pub followed : Grid → ℕ → ℕ → Option ℕ → List ℕ
followed g pair zero at = []
followed g pair (suc n) None = []
followed g pair (suc n) (Some x) = x ∷ followed g pair n (link_of g pair x).next

-- the list of a chain, found by following it from its head
abbrev pub list_of : Grid → Ends → List ℕ
list_of g c = followed g c.pair g.nodes c.head

-- the node stands in the chain
abbrev pub StandsIn : Grid → Ends → ℕ → Type 0
StandsIn g c node = (front back : List ℕ) × IsChain g c (front ++ node ∷ back)

-- the chain is a list in which the node doesn't stand
abbrev pub Lacks : Grid → Ends → ℕ → Type 0
Lacks g c node = (xs : List ℕ) × IsChain g c xs × (times node xs ≡ 0)

-- no node stands in both
abbrev pub IsApart : List ℕ → List ℕ → Type 0
IsApart xs ys = (x : ℕ) → 1 ≤ times x xs → times x ys ≡ 0

-- every chain that has another pair, or shares none of these nodes, is the list that it was
pub record KeepsOthers (pair : ℕ) (old new : Grid) (touched : List ℕ) : Type 0 where
  pub pairs : new.pairs ≡ old.pairs
  pub nodes : new.nodes ≡ old.nodes
  pub chains : (c : Ends) (xs : List ℕ) → IsChain old c xs → (c.pair ≢ pair) ⊎ IsApart xs touched
      → IsChain new c xs

-- there are `n` nodes now, or as many as before where those were more, and every chain is the list that it was
pub record GrewOnly (old new : Grid) (n : ℕ) : Type 0 where
  pub pairs : new.pairs ≡ old.pairs
  pub nodes : new.nodes ≡ max old.nodes n
  pub chains : (c : Ends) (xs : List ℕ) → IsChain old c xs → IsChain new c xs
