-- What a write leaves of the links.
use Rattle.std.proofs.Common.{◌≡◌, ◌≢◌, ◌∙◌, ◌<◌, ◌≤◌, ℕ, List, [], ◌∷◌, ◌⊎◌, inl, inr, Option, Some, None, refl, ap, subst, arith}
use Rattle.std.proofs.lemmas.Bool.{cases_eq}
use Rattle.link_lists.specs.declared.nodes.Link.{Link}
use Rattle.link_lists.specs.Grid.{Grid, link_of, times, Leaves, IsLinked}
use Rattle.link_lists.specs.Chains.{last_or, AreLinked, IsApart, KeepsOthers}
use Rattle.link_lists.proofs.Times.{times-cons, times_at, times_past}

-- the last of a list stands in it
pub times_last : (x : ℕ) (xs : List ℕ) (n : ℕ) → last_or (Some x) xs ≡ Some n → 1 ≤ times n (x ∷ xs)
times_last x [] n e = let same : x ≡ n = cc in subst (λ i. 1 ≤ times i (x ∷ [])) same (omega (arith, times_at x []))
times_last x (y ∷ ys) n e = omega (arith, times_last y ys n e, times-cons n x (y ∷ ys))

pub last_some : (x : ℕ) (xs : List ℕ) → last_or (Some x) xs ≡ None → ⊥
last_some x [] e = cc
last_some x (y ∷ ys) e = last_some y ys e

-- a node that stands in a list is another than one that doesn't
pub apart_one : (n : ℕ) (xs : List ℕ) → times n xs ≡ 0 → IsApart xs (n ∷ [])
apart_one n xs none = λ y there. times_past y n [] (λ e. let z = ap (λ i. times i xs) e in absurd (omega (arith, none, there, z)))

pub none_one : (n y : ℕ) (xs : List ℕ) → 1 ≤ times n xs → times y xs ≡ 0 → times y (n ∷ []) ≡ 0
none_one n y xs there none = times_past y n [] (λ e. let z = ap (λ i. times i xs) e in absurd (omega (arith, none, there, z)))

-- who is linked is a node that is there
pub linked_within : (g : Grid) (pair : ℕ) (p : Option ℕ) (xs : List ℕ) (b : Option ℕ) (y : ℕ) → AreLinked g pair p xs b → 1 ≤ times y xs → y < g.nodes
linked_within g pair p [] b y k h = absurd (omega arith)
linked_within g pair p (x ∷ xs) b y k h = elim (cases_eq x y) [
  | inl e ↦ subst (λ i. i < g.nodes) e k.0
  | inr ne ↦ linked_within g pair (Some x) xs b y k.2 (omega (arith, h, times_past y x xs ne))
]

-- links stay where those of their nodes do
pub linked_same : (old new : Grid) (pair : ℕ) (p : Option ℕ) (xs : List ℕ) (b : Option ℕ) → old.nodes ≤ new.nodes → ((y : ℕ) → 1 ≤ times y xs → link_of new pair y ≡ link_of old pair y)
    → AreLinked old pair p xs b → AreLinked new pair p xs b
linked_same old new pair p [] b more h k = tt
linked_same old new pair p (x ∷ xs) b more h k = (
  omega (arith, k.0, more),
  h x (omega (arith, times_at x xs)) ∙ k.1,
  linked_same old new pair (Some x) xs b more (λ y w. h y (omega (arith, w, times-cons y x xs))) k.2,
)

-- a change in another pair, or at other nodes
pub linked_apart : (q : ℕ) (old new : Grid) (touched : List ℕ) (pair : ℕ) (p : Option ℕ) (xs : List ℕ) (b : Option ℕ) → Leaves q old new touched → pair < old.pairs
    → (pair ≢ q) ⊎ IsApart xs touched → AreLinked old pair p xs b → AreLinked new pair p xs b
linked_apart q old new touched pair p xs b l w apart k = linked_same old new pair p xs b (omega (arith, l.nodes)) (λ y there. l.links pair y w (each y there apart)) k
  where
    each : (y : ℕ) → 1 ≤ times y xs → (pair ≢ q) ⊎ IsApart xs touched → (pair ≢ q) ⊎ (times y touched ≡ 0)
    each y there (inl ne) = inl ne
    each y there (inr none) = inr (none y there)

pub leaves_refl : (pair : ℕ) (g : Grid) (touched : List ℕ) → Leaves pair g g touched
leaves_refl pair g touched = record { pairs = refl; nodes = refl; links = λ q y w other. refl }

pub leaves_then : (pair : ℕ) (a b c : Grid) (touched : List ℕ) → Leaves pair a b touched → Leaves pair b c touched → Leaves pair a c touched
leaves_then pair a b c touched l m = record {
  pairs = m.pairs ∙ l.pairs;
  nodes = m.nodes ∙ l.nodes;
  links = λ q y w other. m.links q y (omega (arith, w, l.pairs)) other ∙ l.links q y w other;
}

pub leaves_more : (pair : ℕ) (old new : Grid) (few many : List ℕ) → ((y : ℕ) → times y many ≡ 0 → times y few ≡ 0) → Leaves pair old new few → Leaves pair old new many
leaves_more pair old new few many h l = record { pairs = l.pairs; nodes = l.nodes; links = λ q y w other. l.links q y w (each y other) }
  where
    each : {q : ℕ} (y : ℕ) → (q ≢ pair) ⊎ (times y many ≡ 0) → (q ≢ pair) ⊎ (times y few ≡ 0)
    each y (inl ne) = inl ne
    each y (inr none) = inr (h y none)

-- chains of other pairs, and those of other nodes, stay
pub keeps_from : (pair : ℕ) (old new : Grid) (touched : List ℕ) → Leaves pair old new touched → KeepsOthers pair old new touched
keeps_from pair old new touched l = record {
  pairs = l.pairs;
  nodes = l.nodes;
  chains = λ c xs k apart. record {
    pair = omega (arith, k.pair, l.pairs);
    head = k.head;
    tail = k.tail;
    linked = linked_apart pair old new touched c.pair None xs None l k.pair apart k.linked;
    once = k.once;
  };
}

-- the last of a list leads to another node
pub linked_last : (old new : Grid) (pair : ℕ) (p : Option ℕ) (x : ℕ) (xs : List ℕ) (b to : Option ℕ) (n : ℕ) → pair < old.pairs → last_or (Some x) xs ≡ Some n
    → IsLinked old new pair n (record { prev = (link_of old pair n).prev; next = to }) → ((y : ℕ) → times y (x ∷ xs) ≤ 1)
    → AreLinked old pair p (x ∷ xs) b → AreLinked new pair p (x ∷ xs) to
linked_last old new pair p x [] b to n w e write once k =
    let same : n ≡ x = cc in
    let here = subst (λ i. IsLinked old new pair i (record { prev = (link_of old pair i).prev; next = to })) same write in (
      omega (arith, k.0, write.leaves.nodes),
      here.here ∙ ap (λ (l : Link). let r : Link = record { prev = l.prev; next = to } in r) k.1,
      tt,
    )
linked_last old new pair p x (y ∷ ys) b to n w e write once k =
    let there = times_last y ys n e in
    let apart : n ≢ x = λ same. let z = ap (λ i. times i (y ∷ ys)) same in absurd (omega (arith, once x, there, z, times_at x (y ∷ ys))) in (
      omega (arith, k.0, write.leaves.nodes),
      write.leaves.links pair x w (inr (times_past x n [] apart)) ∙ k.1,
      linked_last old new pair (Some x) y ys b to n w e write (λ z. omega (arith, once z, times-cons z x (y ∷ ys))) k.2,
    )

-- the first of a list leads back to another node
pub linked_first : (old new : Grid) (pair : ℕ) (b : Option ℕ) (x : ℕ) (xs : List ℕ) (e to : Option ℕ) → pair < old.pairs
    → IsLinked old new pair x (record { prev = to; next = (link_of old pair x).next }) → ((y : ℕ) → times y (x ∷ xs) ≤ 1)
    → AreLinked old pair b (x ∷ xs) e → AreLinked new pair to (x ∷ xs) e
linked_first old new pair b x xs e to w write once k =
    let none : times x xs ≡ 0 = omega (arith, once x, times_at x xs) in (
      omega (arith, k.0, write.leaves.nodes),
      write.here ∙ ap (λ (l : Link). let r : Link = record { prev = to; next = l.next } in r) k.1,
      linked_apart pair old new (x ∷ []) pair (Some x) xs e write.leaves w (inr (apart_one x xs none)) k.2,
    )

-- the link that was read and changed, seen from outside the chain
pub next_written : (old new : Grid) (i pair n : ℕ) (link : Link) (to : Option ℕ) → i ≡ pair → link ≡ link_of old i n
    → IsLinked old new i n (record { prev = link.prev; next = to }) → IsLinked old new pair n (record { prev = (link_of old pair n).prev; next = to })
next_written old new i pair n link to same read write =
    subst (λ j. IsLinked old new j n (record { prev = (link_of old j n).prev; next = to })) same (subst (λ (l : Link). IsLinked old new i n (record { prev = l.prev; next = to })) read write)

pub prev_written : (old new : Grid) (i pair n : ℕ) (link : Link) (to : Option ℕ) → i ≡ pair → link ≡ link_of old i n
    → IsLinked old new i n (record { prev = to; next = link.next }) → IsLinked old new pair n (record { prev = to; next = (link_of old pair n).next })
prev_written old new i pair n link to same read write =
    subst (λ j. IsLinked old new j n (record { prev = to; next = (link_of old j n).next })) same (subst (λ (l : Link). IsLinked old new i n (record { prev = to; next = l.next })) read write)

pub link_written : (old new : Grid) (i pair n : ℕ) (p q b d : Option ℕ) → i ≡ pair → p ≡ q → b ≡ d → IsLinked old new i n (record { prev = p; next = b }) → IsLinked old new pair n (record { prev = q; next = d })
link_written old new i pair n p q b d same prev next write =
    subst (λ j. IsLinked old new j n (record { prev = q; next = d })) same
    (subst (λ k. IsLinked old new i n (record { prev = k; next = d })) prev (subst (λ k. IsLinked old new i n (record { prev = p; next = k })) next write))

-- two steps that change links of a chain, and one that writes those of a node
pub leaves_joined : (pair node : ℕ) (a b c d : Grid) (xs : List ℕ) → Leaves pair a b xs → Leaves pair b c xs → Leaves pair c d (node ∷ []) → Leaves pair a d (node ∷ xs)
leaves_joined pair node a b c d xs l m n =
    let many = node ∷ xs in
    leaves_then pair a b d many (leaves_more pair a b xs many (λ y none. omega (arith, none, times-cons y node xs)) l)
    (leaves_then pair b c d many (leaves_more pair b c xs many (λ y none. omega (arith, none, times-cons y node xs)) m)
    (leaves_more pair c d (node ∷ []) many (λ y none. omega (arith, none, times-cons y node xs, times-cons y node [])) n))
