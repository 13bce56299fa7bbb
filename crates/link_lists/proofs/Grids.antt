-- The links of all nodes in one list: a write in it, and more room behind it.
use Rattle.std.proofs.Common.{◌≡◌, ◌≢◌, ◌∙◌, ◌+◌, ◌-◌, ◌*◌, ◌<◌, ◌≤◌, ℕ, List, [], ◌∷◌, ◌++◌, ◌⊎◌, inl, inr, None, length, get_or, set, refl, sym, ap, subst, arith}
use Rattle.std.specs.Prelude.{replicate}
use Rattle.std.proofs.lemmas.List.{get_or-set_same, get_or-set_other, get_or_append_left, get_or-append_right, get_or-replicate, get_or_past, length-replicate}
use Rattle.std.proofs.lemmas.Nat.{same_from_place}
use Rattle.std.proofs.Math.Nat.{max-eq_right}
use Rattle.std.proofs.lemmas.Bool.{cases_lt}
use Rattle.link_lists.specs.declared.nodes.Link.{Link}
use Rattle.link_lists.specs.Grid.{Grid, unlinked, times, IsLinked}
use Rattle.link_lists.specs.Chains.{GrewOnly}
use Rattle.link_lists.proofs.Times.{times_at}
use Rattle.link_lists.proofs.Written.{linked_same}

-- another node, or another pair, has another place
elsewhere : (pair node pairs q y : ℕ) → pair < pairs → q < pairs → (q ≢ pair) ⊎ (times y (node ∷ []) ≡ 0) → y * pairs + q ≢ node * pairs + pair
elsewhere pair node pairs q y w v (inl ne) = λ e. ne (same_from_place y q node pair pairs v w e).1
elsewhere pair node pairs q y w v (inr none) = λ e.
    let same = (same_from_place y q node pair pairs v w e).0 in
    let z = ap (λ i. times i (node ∷ [])) same in
    absurd (omega (arith, none, z, times_at node []))

pub written_at : (g new : Grid) (pair node place : ℕ) (link : Link) → new ≡ record g { links = set g.links place link } → pair < g.pairs → place ≡ node * g.pairs + pair → place < length g.links
    → IsLinked g new pair node link
written_at g new pair node place link is w at within =
    subst (λ (h : Grid). IsLinked g h pair node link) (sym is)
    (subst (λ i. IsLinked g (record g { links = set g.links i link }) pair node link) (sym at) (record {
      here = get_or-set_same g.links (node * g.pairs + pair) link unlinked (subst (λ i. i < length g.links) at within);
      leaves = record {
        pairs = refl;
        nodes = refl;
        links = λ q y v other. get_or-set_other g.links (node * g.pairs + pair) (y * g.pairs + q) link unlinked (elsewhere pair node g.pairs q y w v other);
      };
    }))

-- a new link reads as one that isn't there
read_behind : (links : List Link) (k i : ℕ) → length links ≤ i → get_or (links ++ replicate k unlinked) i unlinked ≡ get_or links i unlinked
read_behind links k i past = elim (cases_lt (i - length links) k) [
  | inl l ↦ get_or-append_right links (replicate k unlinked) (length links) i unlinked refl past ∙ get_or-replicate k (i - length links) unlinked unlinked l ∙ sym (get_or_past links i unlinked past)
  | inr g ↦ get_or-append_right links (replicate k unlinked) (length links) i unlinked refl past ∙ get_or_past (replicate k unlinked) (i - length links) unlinked (omega (arith, g, length-replicate k unlinked)) ∙ sym (get_or_past links i unlinked past)
]

read_more : (links : List Link) (k i : ℕ) → get_or (links ++ replicate k unlinked) i unlinked ≡ get_or links i unlinked
read_more links k i = elim (cases_lt i (length links)) [
  | inl l ↦ get_or_append_left links (replicate k unlinked) unlinked i l
  | inr g ↦ read_behind links k i g
]

pub grown_by : (g new : Grid) (n k : ℕ) → g.nodes < n → new ≡ record { pairs = g.pairs; nodes = n; links = g.links ++ replicate k unlinked } → GrewOnly g new n
grown_by g new n k more is = subst (λ (h : Grid). GrewOnly g h n) (sym is) (record {
  pairs = refl;
  nodes = sym (max-eq_right (omega (arith, more)));
  chains = λ c xs chain. record {
    pair = chain.pair;
    head = chain.head;
    tail = chain.tail;
    linked = linked_same g (record { pairs = g.pairs; nodes = n; links = g.links ++ replicate k unlinked }) c.pair None xs None (omega (arith, more)) (λ y there. read_more g.links k (y * g.pairs + c.pair)) chain.linked;
    once = chain.once;
  };
})
