-- A chain is the list that is found by following it.
use Rattle.std.proofs.Common.{◌≡◌, ◌∙◌, ◌<◌, ◌≤◌, ℕ, zero, suc, true, false, eqb, List, [], ◌∷◌, inl, inr, length, Option, Some, None, refl, sym, ap, subst, arith}
use Rattle.std.specs.List.{IsDistinct, AllByRecursion, list_any}
use Rattle.std.proofs.lemmas.Map.Steps.{length-le_from_distinct_below}
use Rattle.std.proofs.lemmas.Bool.{cases_eq, ne_eqb}
use Rattle.link_lists.specs.declared.nodes.Link.{Link}
use Rattle.link_lists.specs.Grid.{Grid, times}
use Rattle.link_lists.specs.Chains.{Ends, first, AreLinked, IsChain, StandsIn, followed, list_of}
use Rattle.link_lists.proofs.Times.{times-cons, times_at, times_past, placed}
use Rattle.link_lists.proofs.Written.{linked_within}

others_differ : (x : ℕ) (xs : List ℕ) → times x xs ≡ 0 → AllByRecursion (λ y. eqb x y ≡ false) xs
others_differ x [] none = tt
others_differ x (y ∷ ys) none = elim (cases_eq x y) [
  | inl e ↦ absurd (omega (arith, none, times_at y ys, ap (λ i. times i (y ∷ ys)) e))
  | inr ne ↦ (ne_eqb x y ne, others_differ x ys (omega (arith, none, times-cons x y ys)))
]

distinct_from_once : (xs : List ℕ) → ((x : ℕ) → times x xs ≤ 1) → IsDistinct eqb xs
unfolding IsDistinct
distinct_from_once [] once = tt
distinct_from_once (x ∷ xs) once = (others_differ x xs (omega (arith, once x, times_at x xs)), distinct_from_once xs (λ y. omega (arith, once y, times-cons y x xs)))

stands_from_any : (q : ℕ) (xs : List ℕ) → list_any (eqb q) xs ≡ true → 1 ≤ times q xs
stands_from_any q [] e = absurd (cc)
stands_from_any q (x ∷ xs) e = elim (cases_eq x q) [
  | inl same ↦ subst (λ i. 1 ≤ times i (x ∷ xs)) same (omega (arith, times_at x xs))
  | inr ne ↦ let no : eqb q x ≡ false = ne_eqb q x (λ same. ne (sym same)) in omega (arith, times_past q x xs ne, stands_from_any q xs (rw no at e))
]

-- a chain has no more nodes than there are
pub few : (g : Grid) (c : Ends) (xs : List ℕ) → IsChain g c xs → length xs ≤ g.nodes
few g c xs k = length-le_from_distinct_below xs g.nodes (distinct_from_once xs k.once) (λ q there. linked_within g c.pair None xs None q k.linked (stands_from_any q xs there))

followed_is : (g : Grid) (pair : ℕ) (p : Option ℕ) (xs : List ℕ) (n : ℕ) → length xs ≤ n → AreLinked g pair p xs None → followed g pair n (first xs) ≡ xs
followed_is g pair p [] zero le k = refl
followed_is g pair p [] (suc n) le k = refl
followed_is g pair p (x ∷ xs) zero le k = absurd (omega arith)
followed_is g pair p (x ∷ xs) (suc n) le k =
    ap (λ ys. x ∷ ys) (ap (λ (l : Link). followed g pair n l.next) k.1 ∙ followed_is g pair (Some x) xs n (omega arith) k.2)

pub found : (g : Grid) (c : Ends) (xs : List ℕ) → IsChain g c xs → list_of g c ≡ xs
found g c xs k = ap (λ at. followed g c.pair g.nodes at) k.head ∙ followed_is g c.pair None xs g.nodes (few g c xs k) k.linked

pub present : (g : Grid) (c : Ends) (xs : List ℕ) (x : ℕ) → IsChain g c xs → 1 ≤ times x xs → StandsIn g c x
present g c xs x k there = let t = placed x xs there in (t.0, t.1, subst (λ ys. IsChain g c ys) t.2 k)

pub exists : (g : Grid) (c : Ends) (xs : List ℕ) (x : ℕ) → IsChain g c xs → 1 ≤ times x xs → x < g.nodes
exists g c xs x k there = linked_within g c.pair None xs None x k.linked there
