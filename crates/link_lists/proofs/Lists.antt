-- What the view of an `IndexList` tells of its chain, and what a call leaves.
use Rattle.std.proofs.Common.{◌≡◌, ◌∙◌, ◌+◌, ◌<◌, ◌^◌, ℕ, List, length, sym, ap, subst, arith}
use Rattle.link_lists.specs.Grid.{Grid}
use Rattle.link_lists.specs.Chains.{Ends, IsChain, list_of}
use Rattle.link_lists.specs.Chains as chain
use Rattle.link_lists.specs.declared.index_list.IndexList.TheInside.{Inside}
use Rattle.link_lists.specs.IndexLists.{IndexList, Has}
use Rattle.link_lists.specs.Inside.{view_of, IsKept}
use Rattle.link_lists.proofs.Follow.{found, present, few}

-- a chain as what is seen and kept of it
module _ (g : Grid) (c : Ends) (xs : List ℕ) (is : IsChain g c xs) where
  pub seen : (room : ℕ) → g.nodes ≡ room → ◌≡◌ {A = IndexList} (record { items = list_of g c; room = g.nodes }) (record { items = xs; room = room })
  seen room nodes =
      ap (λ ys. let l : IndexList = record { items = ys; room = g.nodes } in l) (found g c xs is)
      ∙ ap (λ r. let l : IndexList = record { items = xs; room = r } in l) nodes

  pub kept : (len : ℕ) → len ≡ length xs → g.nodes < 2 ^ 32 → IsKept (record { nodes = g; chain = c; len = len })
  kept len same fits = record {
    chain = subst (λ (ys : List ℕ). IsChain g c ys) (sym (found g c xs is)) is;
    len = same ∙ ap length (sym (found g c xs is));
    fits = fits;
  }

module _ {a : Inside} {l : IndexList} (is : view_of a ≡ l) (k : IsKept a) where
  pub room_is : a.nodes.nodes ≡ l.room
  room_is = ap (λ (l : IndexList). l.room) is

  pub chain_is : IsChain a.nodes a.chain l.items
  chain_is = subst (λ (xs : List ℕ). IsChain a.nodes a.chain xs) (ap (λ (l : IndexList). l.items) is) k.chain

  pub len_is : a.len ≡ length l.items
  len_is = k.len ∙ ap (λ (l : IndexList). length l.items) is

  pub has : (x : ℕ) → Has l x → chain.StandsIn a.nodes a.chain x
  has x there = present a.nodes a.chain l.items x chain_is there

  -- the chain where the list is cut so
  pub cut : {xs : List ℕ} → l.items ≡ xs → IsChain a.nodes a.chain xs
  cut e = subst (λ (xs : List ℕ). IsChain a.nodes a.chain xs) e chain_is

  -- where one more is in the list, its length fits
  pub longer : {g : Grid} {c : Ends} {xs : List ℕ} → IsChain g c xs → length xs ≡ length l.items + 1 → g.nodes ≡ a.nodes.nodes → a.len + 1 < 2 ^ 32
  longer {g} {c} {xs} more len nodes = omega (arith, few g c xs more, len, nodes, k.fits, len_is)

  -- what a call leaves that adds no node
  module _ {g : Grid} {c : Ends} {xs : List ℕ} (chain : IsChain g c xs) (nodes : g.nodes ≡ a.nodes.nodes) where
    pub seen_then : ◌≡◌ {A = IndexList} (record { items = list_of g c; room = g.nodes }) (record l { items = xs })
    seen_then = seen g c xs chain l.room (nodes ∙ room_is)

    pub kept_then : {len : ℕ} → len ≡ length xs → IsKept (record { nodes = g; chain = c; len = len })
    kept_then {len} same = kept g c xs chain len same (omega (arith, nodes, k.fits))
