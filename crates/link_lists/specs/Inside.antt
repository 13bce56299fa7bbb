-- How an `IndexList` is kept.
use Rattle.std.specs.Prelude.{ℕ, List, ◌≡◌, ◌<◌, ◌^◌, length}
use Rattle.link_lists.specs.Chains.{IsChain, list_of}
use Rattle.link_lists.specs.IndexLists.{IndexList}
use Rattle.link_lists.specs.declared.index_list.IndexList.TheInside.{Inside}

-- the numbers of the chain
abbrev pub items_of : Inside → List ℕ
items_of a = list_of a.nodes a.chain

-- what is kept as what callers see: there is room for the numbers that have a node
abbrev pub view_of : Inside → IndexList
view_of a = record { items = items_of a; room = a.nodes.nodes }

-- the chain with its length
pub record IsKept (a : Inside) : Type 0 where
  pub chain : IsChain a.nodes a.chain (items_of a)
  pub len : a.len ≡ length (items_of a)
  pub fits : a.nodes.nodes < 2 ^ 32
