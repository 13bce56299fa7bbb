-- A chain that is cut, and joined again.
use Rattle.std.proofs.Common.{◌≡◌, ◌∙◌, ◌<◌, ◌≤◌, ℕ, List, [], ◌∷◌, ◌++◌, inl, inr, Option, Some, None, refl, sym, ap, subst, arith}
use Rattle.std.proofs.lemmas.Bool.{cases_eq}
use Rattle.link_lists.specs.declared.nodes.Link.{Link}
use Rattle.link_lists.specs.Grid.{Grid, link_of, times, Leaves, IsLinked}
use Rattle.link_lists.specs.Chains.{Ends, first_or, last_or, first, last, AreLinked, IsChain}
use Rattle.link_lists.specs.Cuts.{IsCut}
use Rattle.link_lists.proofs.Times.{times-cons, times-append, times_at, times_past}
use Rattle.link_lists.proofs.Written.{times_last, last_some, apart_one, none_one, linked_within, linked_apart, linked_last, linked_first, leaves_more}

-- lists that are linked one behind the other
linked-append : (g : Grid) (pair : ℕ) (p : Option ℕ) (xs ys : List ℕ) (b : Option ℕ) → AreLinked g pair p xs (first_or ys b) → AreLinked g pair (last_or p xs) ys b → AreLinked g pair p (xs ++ ys) b
linked-append g pair p [] ys b k l = l
linked-append g pair p (x ∷ []) ys b k l = (k.0, k.1, l)
linked-append g pair p (x ∷ y ∷ xs) ys b k l = (k.0, k.1, linked-append g pair (Some x) (y ∷ xs) ys b k.2 l)

linked_front : (g : Grid) (pair : ℕ) (p : Option ℕ) (xs ys : List ℕ) (b : Option ℕ) → AreLinked g pair p (xs ++ ys) b → AreLinked g pair p xs (first_or ys b)
linked_front g pair p [] ys b k = tt
linked_front g pair p (x ∷ []) ys b k = (k.0, k.1, tt)
linked_front g pair p (x ∷ y ∷ xs) ys b k = (k.0, k.1, linked_front g pair (Some x) (y ∷ xs) ys b k.2)

linked_back : (g : Grid) (pair : ℕ) (p : Option ℕ) (xs ys : List ℕ) (b : Option ℕ) → AreLinked g pair p (xs ++ ys) b → AreLinked g pair (last_or p xs) ys b
linked_back g pair p [] ys b k = k
linked_back g pair p (x ∷ xs) ys b k = linked_back g pair (Some x) xs ys b k.2

first-append : (xs ys : List ℕ) (b : Option ℕ) → first_or (xs ++ ys) b ≡ first_or xs (first_or ys b)
first-append [] ys b = refl
first-append (x ∷ xs) ys b = refl

last-append : (p : Option ℕ) (xs ys : List ℕ) → last_or p (xs ++ ys) ≡ last_or (last_or p xs) ys
last-append p [] ys = refl
last-append p (x ∷ xs) ys = last-append (Some x) xs ys

-- the first part leads elsewhere, by a write at its last node
pub cut_next : (old new : Grid) (c : Ends) (front back : List ℕ) (a b to : Option ℕ) (n : ℕ) → IsCut old c front back a b → Some n ≡ last front
    → IsLinked old new c.pair n (record { prev = (link_of old c.pair n).prev; next = to }) → IsCut new c front back to b
cut_next old new c [] back a b to n k e write = absurd (cc)
cut_next old new c (x ∷ xs) back a b to n k e write =
    let there = times_last x xs n (sym e) in
    let none : times n back ≡ 0 = omega (arith, k.once n, times-append n (x ∷ xs) back, there) in
    record {
      pair = omega (arith, k.pair, write.leaves.pairs);
      head = k.head;
      tail = k.tail;
      before = linked_last old new c.pair None x xs a to n k.pair (sym e) write (λ y. omega (arith, k.once y, times-append y (x ∷ xs) back)) k.before;
      behind = linked_apart c.pair old new (n ∷ []) c.pair b back None write.leaves k.pair (inr (apart_one n back none)) k.behind;
      once = k.once;
    }

-- or by another head, where it is empty
pub cut_head : (g : Grid) (c : Ends) (front back : List ℕ) (a b to : Option ℕ) → IsCut g c front back a b → None ≡ last front → IsCut g (record c { head = to }) front back to b
cut_head g c [] back a b to k e = record { pair = k.pair; head = refl; tail = k.tail; before = tt; behind = k.behind; once = k.once }
cut_head g c (x ∷ xs) back a b to k e = absurd (last_some x xs (sym e))

-- the second part leads back elsewhere, by a write at its first node
pub cut_prev : (old new : Grid) (c : Ends) (front back : List ℕ) (a b to : Option ℕ) (n : ℕ) → IsCut old c front back a b → Some n ≡ first back
    → IsLinked old new c.pair n (record { prev = to; next = (link_of old c.pair n).next }) → IsCut new c front back a to
cut_prev old new c front [] a b to n k e write = absurd (cc)
cut_prev old new c front (x ∷ xs) a b to n k e write =
    let same : n ≡ x = cc in
    let here = subst (λ i. IsLinked old new c.pair i (record { prev = to; next = (link_of old c.pair i).next })) same write in
    let none : times x front ≡ 0 = omega (arith, k.once x, times-append x front (x ∷ xs), times_at x xs) in
    record {
      pair = omega (arith, k.pair, write.leaves.pairs);
      head = k.head;
      tail = k.tail;
      before = linked_apart c.pair old new (x ∷ []) c.pair None front a here.leaves k.pair (inr (apart_one x front none)) k.before;
      behind = linked_first old new c.pair b x xs None to k.pair here (λ y. omega (arith, k.once y, times-append y front (x ∷ xs))) k.behind;
      once = k.once;
    }

-- or by another tail, where it is empty
pub cut_tail : (g : Grid) (c : Ends) (front back : List ℕ) (a b to : Option ℕ) → IsCut g c front back a b → None ≡ first back → IsCut g (record c { tail = to }) front back a to
cut_tail g c front [] a b to k e = record { pair = k.pair; head = k.head; tail = refl; before = k.before; behind = tt; once = k.once }
cut_tail g c front (x ∷ xs) a b to k e = absurd (cc)

-- the nodes at a cut are there, and a write at one touches no others
pub last_within : (g : Grid) (c : Ends) (front back : List ℕ) (a b : Option ℕ) (n : ℕ) → IsCut g c front back a b → Some n ≡ last front → n < g.nodes
last_within g c [] back a b n k e = absurd (cc)
last_within g c (x ∷ xs) back a b n k e = linked_within g c.pair None (x ∷ xs) a n k.before (times_last x xs n (sym e))

pub first_within : (g : Grid) (c : Ends) (front back : List ℕ) (a b : Option ℕ) (n : ℕ) → IsCut g c front back a b → Some n ≡ first back → n < g.nodes
first_within g c front [] a b n k e = absurd (cc)
first_within g c front (x ∷ xs) a b n k e = let same : n ≡ x = cc in subst (λ i. i < g.nodes) (sym same) k.behind.0

pub last_leaves : (pair : ℕ) (old new : Grid) (front back : List ℕ) (n : ℕ) → Some n ≡ last front → Leaves pair old new (n ∷ []) → Leaves pair old new (front ++ back)
last_leaves pair old new [] back n e l = absurd (cc)
last_leaves pair old new (x ∷ xs) back n e l =
    leaves_more pair old new (n ∷ []) ((x ∷ xs) ++ back) (λ y none. none_one n y ((x ∷ xs) ++ back) (omega (arith, times_last x xs n (sym e), times-append n (x ∷ xs) back)) none) l

pub first_leaves : (pair : ℕ) (old new : Grid) (front back : List ℕ) (n : ℕ) → Some n ≡ first back → Leaves pair old new (n ∷ []) → Leaves pair old new (front ++ back)
first_leaves pair old new front [] n e l = absurd (cc)
first_leaves pair old new front (x ∷ xs) n e l =
    let same : x ≡ n = cc in
    let there = subst (λ i. 1 ≤ times i (x ∷ xs)) same (omega (arith, times_at x xs)) in
    leaves_more pair old new (n ∷ []) (front ++ x ∷ xs) (λ y none. none_one n y (front ++ x ∷ xs) (omega (arith, there, times-append n front (x ∷ xs))) none) l

-- a chain that is cut between two of its nodes
pub chain_cut : (g : Grid) (c : Ends) (front back : List ℕ) → IsChain g c (front ++ back) → IsCut g c front back (first back) (last front)
chain_cut g c front back k = record {
  pair = k.pair;
  head = k.head ∙ first-append front back None;
  tail = k.tail ∙ last-append None front back;
  before = linked_front g c.pair None front back None k.linked;
  behind = linked_back g c.pair None front back None k.linked;
  once = k.once;
}

-- and joined there
pub cut_chain : (g : Grid) (c : Ends) (front back : List ℕ) → IsCut g c front back (first back) (last front) → IsChain g c (front ++ back)
cut_chain g c front back k = record {
  pair = k.pair;
  head = k.head ∙ sym (first-append front back None);
  tail = k.tail ∙ sym (last-append None front back);
  linked = linked-append g c.pair None front back None k.before k.behind;
  once = k.once;
}

-- a node is taken out of a chain: what is left is cut there
pub chain_without : (g : Grid) (c : Ends) (front back : List ℕ) (x : ℕ) → IsChain g c (front ++ x ∷ back) → IsCut g c front back (Some x) (Some x)
chain_without g c front back x k = record {
  pair = k.pair;
  head = k.head ∙ first-append front (x ∷ back) None;
  tail = k.tail ∙ last-append None front (x ∷ back);
  before = linked_front g c.pair None front (x ∷ back) None k.linked;
  behind = (linked_back g c.pair None front (x ∷ back) None k.linked).2;
  once = λ y. omega (arith, k.once y, times-append y front (x ∷ back), times-append y front back, times-cons y x back);
}

-- a node of a chain is there, and its links are its neighbours
pub node_within : (g : Grid) (c : Ends) (front back : List ℕ) (x : ℕ) → IsChain g c (front ++ x ∷ back) → x < g.nodes
node_within g c front back x k = (linked_back g c.pair None front (x ∷ back) None k.linked).0

pub link_there : (g : Grid) (c : Ends) (front back : List ℕ) (x : ℕ) → IsChain g c (front ++ x ∷ back) → link_of g c.pair x ≡ record { prev = last front; next = first back }
link_there g c front back x k = (linked_back g c.pair None front (x ∷ back) None k.linked).1

once_more : (y : ℕ) (front back : List ℕ) (x : ℕ) → ((z : ℕ) → times z (front ++ back) ≤ 1) → times x (front ++ back) ≡ 0 → times y (front ++ x ∷ back) ≤ 1
once_more y front back x once none = elim (cases_eq x y) [
  | inl e ↦ subst (λ z. times z (front ++ x ∷ back) ≤ 1) e (omega (arith, none, times-append x front (x ∷ back), times-append x front back, times_at x back))
  | inr ne ↦ omega (arith, once y, times-append y front (x ∷ back), times-append y front back, times_past y x back ne)
]

-- a cut that leads to a node on both sides is joined by a write at that node
pub cut_with : (old new : Grid) (c : Ends) (front back : List ℕ) (x : ℕ) → x < old.nodes → IsCut old c front back (Some x) (Some x)
    → IsLinked old new c.pair x (record { prev = last front; next = first back }) → times x (front ++ back) ≡ 0 → IsChain new c (front ++ x ∷ back)
cut_with old new c front back x within k write none =
    let parts = times-append x front back in
    let stays : (p : Option ℕ) (xs : List ℕ) (b : Option ℕ) → times x xs ≡ 0 → AreLinked old c.pair p xs b → AreLinked new c.pair p xs b
    = λ p xs b away l. linked_apart c.pair old new (x ∷ []) c.pair p xs b write.leaves k.pair (inr (apart_one x xs away)) l in
    record {
      pair = omega (arith, k.pair, write.leaves.pairs);
      head = k.head ∙ sym (first-append front (x ∷ back) None);
      tail = k.tail ∙ sym (last-append None front (x ∷ back));
      linked = linked-append new c.pair None front (x ∷ back) None
          (stays None front (Some x) (omega (arith, none, parts)) k.before)
          (omega (arith, within, write.leaves.nodes), write.here, stays (Some x) back None (omega (arith, none, parts)) k.behind);
      once = λ y. once_more y front back x k.once none;
    }

-- a chain is one list at most
linked_one : (g : Grid) (pair : ℕ) (p q : Option ℕ) (xs ys : List ℕ) → first xs ≡ first ys → AreLinked g pair p xs None → AreLinked g pair q ys None → xs ≡ ys
linked_one g pair p q [] [] e k l = refl
linked_one g pair p q [] (y ∷ ys) e k l = absurd (cc)
linked_one g pair p q (x ∷ xs) [] e k l = absurd (cc)
linked_one g pair p q (x ∷ xs) (y ∷ ys) e k l =
    let same : x ≡ y = cc in
    let rest = ap (λ (l : Link). l.next) (sym k.1 ∙ ap (λ i. link_of g pair i) same ∙ l.1) in
    ap (λ i. i ∷ xs) same ∙ ap (λ zs. y ∷ zs) (linked_one g pair (Some x) (Some y) xs ys rest k.2 l.2)

pub one_list : (g : Grid) (c : Ends) (xs ys : List ℕ) → IsChain g c xs → IsChain g c ys → xs ≡ ys
one_list g c xs ys k l = linked_one g c.pair None None xs ys (sym k.head ∙ l.head) k.linked l.linked

-- what is read of a node of a chain
pub neighbours : (g : Grid) (c : Ends) (front back : List ℕ) (x i : ℕ) (link : Link) → IsChain g c (front ++ x ∷ back) → i ≡ c.pair → link ≡ link_of g i x → link ≡ record { prev = last front; next = first back }
neighbours g c front back x i link k same read = read ∙ ap (λ j. link_of g j x) same ∙ link_there g c front back x k

-- a node that isn't in the whole isn't in what is left
pub none_left : (front back : List ℕ) (x y : ℕ) → times y (front ++ x ∷ back) ≡ 0 → times y (front ++ back) ≡ 0
none_left front back x y none = omega (arith, none, times-append y front (x ∷ back), times-append y front back, times-cons y x back)
