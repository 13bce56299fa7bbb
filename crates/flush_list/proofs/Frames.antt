-- The list of nodes over the list of frames.
use Rattle.std.proofs.Common.{◌≡◌, ◌∙◌, ◌+◌, ◌<◌, ◌≤◌, ℕ, suc, cond, not, List, [], ◌∷◌, ◌++◌, inl, inr, length, get_or, set, Option, Some, None, refl, sym, ap, subst, append_assoc, arith}
use Rattle.std.specs.Prelude.{map, IfSome}
use Rattle.std.specs.Option.{option_map}
use Rattle.std.proofs.lemmas.List.{length-map, length-append, map-append, get_or-set_same, get_or-set_other}
use Rattle.std.proofs.lemmas.Bool.{cases_eq, cases_lt, ne_eqb, eq-eqb}
use Rattle.link_lists.specs.Grid.{times}
use Rattle.link_lists.specs.Chains.{last_or as last_frame_or}
use Rattle.link_lists.proofs.Times.{times-cons, times-append, times_at, times_past, none_before, none_behind, last_there}
use Rattle.flush_list.specs.View.{Node, place_of, without, relocated, last_or, before_or}
use Rattle.flush_list.specs.Inside.{node_of}
use Rattle.flush_list.proofs.Places.{place_here, place_next, moved_here, moved_else}

-- a frame that has a place stands among the frames
pub stands : (os : List ℕ) (f : ℕ) (xs : List ℕ) → place_of f (map (node_of os) xs) < length (map (node_of os) xs) → 1 ≤ times f xs
stands os f [] l = absurd (omega arith)
stands os f (x ∷ xs) l = elim (cases_eq x f) [
  | inl e ↦ subst (λ i. 1 ≤ times i (x ∷ xs)) e (omega (arith, times_at x xs))
  | inr ne ↦
      let next = place_next f (node_of os x) (map (node_of os) xs) ne in
      omega (arith, times_past f x xs ne, stands os f xs (omega (arith, l, next)))
]

-- and one that stands there has a place
pub has_place : (os : List ℕ) (f : ℕ) (xs : List ℕ) → 1 ≤ times f xs → place_of f (map (node_of os) xs) < length (map (node_of os) xs)
has_place os f [] there = absurd (omega arith)
has_place os f (x ∷ xs) there = elim (cases_eq x f) [
  | inl e ↦ omega (arith, place_here f (node_of os x) (map (node_of os) xs) e)
  | inr ne ↦
      let next = place_next f (node_of os x) (map (node_of os) xs) ne in
      omega (arith, next, has_place os f xs (omega (arith, there, times_past f x xs ne)))
]

pub none_stands : (os : List ℕ) (f : ℕ) (xs : List ℕ) → ¬ (place_of f (map (node_of os) xs) < length (map (node_of os) xs)) → times f xs ≡ 0
none_stands os f xs away = elim (cases_lt 0 (times f xs)) [
  | inl l ↦ absurd (away (has_place os f xs (omega (arith, l))))
  | inr g ↦ omega (arith, g)
]

-- an oldest LSN of a frame that isn't among them changes no node
pub same_nodes : (os : List ℕ) (f oldest : ℕ) (xs : List ℕ) → times f xs ≡ 0 → map (node_of (set os f oldest)) xs ≡ map (node_of os) xs
same_nodes os f oldest [] none = refl
same_nodes os f oldest (x ∷ xs) none = elim (cases_eq x f) [
  | inl e ↦ absurd (omega (arith, none, times_at x xs, ap (λ i. times i (x ∷ xs)) e))
  | inr ne ↦
      ap (λ o. let y : Node = record { frame = x; oldest = o } in y ∷ map (node_of (set os f oldest)) xs) (get_or-set_other os f x oldest 0 ne)
      ∙ ap (λ ys. node_of os x ∷ ys) (same_nodes os f oldest xs (omega (arith, none, times_past f x xs ne)))
]

pub new_node : (os : List ℕ) (f oldest : ℕ) → f < length os → ◌≡◌ {A = Node} (node_of (set os f oldest) f) (record { frame = f; oldest = oldest })
new_node os f oldest l = ap (λ o. let y : Node = record { frame = f; oldest = o } in y) (get_or-set_same os f oldest 0 l)

-- the nodes behind each call: those of the frames behind it
without_none : (os : List ℕ) (f : ℕ) (xs : List ℕ) → times f xs ≡ 0 → without f (map (node_of os) xs) ≡ map (node_of os) xs
without_none os f [] none = refl
without_none os f (x ∷ xs) none = elim (cases_eq x f) [
  | inl e ↦ absurd (omega (arith, none, times_at x xs, ap (λ i. times i (x ∷ xs)) e))
  | inr ne ↦
      let rest = without f (map (node_of os) xs) in
      ap (λ b. cond (not b) (node_of os x ∷ rest) rest) (ne_eqb x f ne)
      ∙ ap (λ ys. node_of os x ∷ ys) (without_none os f xs (omega (arith, none, times_past f x xs ne)))
]

pub removed : (os : List ℕ) (f : ℕ) (front back : List ℕ) → times f front ≡ 0 → times f back ≡ 0
    → without f (map (node_of os) (front ++ f ∷ back)) ≡ map (node_of os) (front ++ back)
removed os f [] back before behind =
    let rest = without f (map (node_of os) back) in
    ap (λ b. cond (not b) (node_of os f ∷ rest) rest) (eq-eqb f f refl) ∙ without_none os f back behind
removed os f (x ∷ xs) back before behind = elim (cases_eq x f) [
  | inl e ↦ absurd (omega (arith, before, times_at x xs, ap (λ i. times i (x ∷ xs)) e))
  | inr ne ↦
      let rest = without f (map (node_of os) (xs ++ f ∷ back)) in
      ap (λ b. cond (not b) (node_of os x ∷ rest) rest) (ne_eqb x f ne)
      ∙ ap (λ ys. node_of os x ∷ ys) (removed os f xs back (omega (arith, before, times_past f x xs ne)) behind)
]

relocated_none : (os : List ℕ) (old new : ℕ) (xs : List ℕ) → times old xs ≡ 0 → relocated old new (map (node_of os) xs) ≡ map (node_of os) xs
relocated_none os old new [] none = refl
relocated_none os old new (x ∷ xs) none = elim (cases_eq x old) [
  | inl e ↦ absurd (omega (arith, none, times_at x xs, ap (λ i. times i (x ∷ xs)) e))
  | inr ne ↦
      ap (λ y. y ∷ relocated old new (map (node_of os) xs)) (moved_else old new (node_of os x) ne)
      ∙ ap (λ ys. node_of os x ∷ ys) (relocated_none os old new xs (omega (arith, none, times_past old x xs ne)))
]

relocated_split : (os : List ℕ) (old new : ℕ) (front back : List ℕ) → times old front ≡ 0 → times old back ≡ 0
    → relocated old new (map (node_of os) (front ++ old ∷ back))
    ≡ map (node_of os) front ++ record { frame = new; oldest = get_or os old 0 } ∷ map (node_of os) back
relocated_split os old new [] back before behind =
    ap (λ y. y ∷ relocated old new (map (node_of os) back)) (moved_here old new (node_of os old) refl)
    ∙ ap (λ ys. let y : Node = record { frame = new; oldest = get_or os old 0 } in y ∷ ys) (relocated_none os old new back behind)
relocated_split os old new (x ∷ xs) back before behind = elim (cases_eq x old) [
  | inl e ↦ absurd (omega (arith, before, times_at x xs, ap (λ i. times i (x ∷ xs)) e))
  | inr ne ↦
      ap (λ y. y ∷ relocated old new (map (node_of os) (xs ++ old ∷ back))) (moved_else old new (node_of os x) ne)
      ∙ ap (λ ys. node_of os x ∷ ys) (relocated_split os old new xs back (omega (arith, before, times_past old x xs ne)) behind)
]

pub replaced : (os : List ℕ) (old new oldest : ℕ) (front back : List ℕ) → times old (front ++ old ∷ back) ≤ 1 → times new (front ++ old ∷ back) ≡ 0
    → new < length os → oldest ≡ get_or os old 0
    → map (node_of (set os new oldest)) (front ++ new ∷ back) ≡ relocated old new (map (node_of os) (front ++ old ∷ back))
replaced os old new oldest front back once none within is =
    let os' = set os new oldest in
    let parts = times-append new front (old ∷ back) in
    let front_none : times new front ≡ 0 = omega (arith, none, parts) in
    let back_none : times new back ≡ 0 = omega (arith, none, parts, times-cons new old back) in
    let node : ℕ → Node = λ o. record { frame = new; oldest = o } in
    map-append (node_of os') front (new ∷ back)
    ∙ ap (λ ys. ys ++ node_of os' new ∷ map (node_of os') back) (same_nodes os new oldest front front_none)
    ∙ ap (λ ys. map (node_of os) front ++ node_of os' new ∷ ys) (same_nodes os new oldest back back_none)
    ∙ ap (λ y. map (node_of os) front ++ y ∷ map (node_of os) back) (new_node os new oldest within)
    ∙ ap (λ o. map (node_of os) front ++ node o ∷ map (node_of os) back) is
    ∙ sym (relocated_split os old new front back (none_before old front back once) (none_behind old front back once))

-- more oldest LSNs, where those of the listed frames are the same
pub nodes_agree : (os os' : List ℕ) (xs : List ℕ) → ((f : ℕ) → 1 ≤ times f xs → get_or os' f 0 ≡ get_or os f 0) → map (node_of os') xs ≡ map (node_of os) xs
nodes_agree os os' [] h = refl
nodes_agree os os' (x ∷ xs) h =
    ap (λ o. let y : Node = record { frame = x; oldest = o } in y ∷ map (node_of os') xs) (h x (omega (arith, times_at x xs)))
    ∙ ap (λ ys. node_of os x ∷ ys) (nodes_agree os os' xs (λ f there. h f (omega (arith, there, times-cons f x xs))))

-- the frame at the tail, and the one before another
pub tail_is : (os : List ℕ) (before : Option Node) (xs : List ℕ) → option_map (λ (x : Node). x.frame) (last_or before (map (node_of os) xs)) ≡ last_frame_or (option_map (λ (x : Node). x.frame) before) xs
tail_is os before [] = refl
tail_is os before (x ∷ xs) = tail_is os (Some (node_of os x)) xs

pub before_is : (os : List ℕ) (before : Option Node) (f : ℕ) (front back : List ℕ) → times f front ≡ 0
    → option_map (λ (x : Node). x.frame) (before_or before f (map (node_of os) (front ++ f ∷ back))) ≡ last_frame_or (option_map (λ (x : Node). x.frame) before) front
before_is os before f [] back none =
    ap (λ b. option_map (λ (x : Node). x.frame) (cond b before (before_or (Some (node_of os f)) f (map (node_of os) back)))) (eq-eqb f f refl)
before_is os before f (x ∷ xs) back none = elim (cases_eq x f) [
  | inl e ↦ absurd (omega (arith, none, times_at x xs, ap (λ i. times i (x ∷ xs)) e))
  | inr ne ↦
      ap (λ b. option_map (λ (x : Node). x.frame) (cond b before (before_or (Some (node_of os x)) f (map (node_of os) (xs ++ f ∷ back))))) (ne_eqb x f ne)
      ∙ before_is os (Some (node_of os x)) f xs back (omega (arith, none, times_past f x xs ne))
]

-- the place of a frame
pub place_is : (os : List ℕ) (f : ℕ) (front back : List ℕ) → times f front ≡ 0 → place_of f (map (node_of os) (front ++ f ∷ back)) ≡ length front
place_is os f [] back none = place_here f (node_of os f) (map (node_of os) back) refl
place_is os f (x ∷ xs) back none = elim (cases_eq x f) [
  | inl e ↦ absurd (omega (arith, none, times_at x xs, ap (λ i. times i (x ∷ xs)) e))
  | inr ne ↦ place_next f (node_of os x) (map (node_of os) (xs ++ f ∷ back)) ne ∙ ap {B = ℕ} (λ k. suc k) (place_is os f xs back (omega (arith, none, times_past f x xs ne)))
]

-- no frame at the tail: no LSN there
pub tail_none : (t : Option Node) → option_map (λ (x : Node). x.frame) t ≡ None → option_map (λ (x : Node). x.oldest) t ≡ None
tail_none None e = refl
tail_none (Some x) e = absurd (cc)

-- the node at the tail
pub tail_node : (os : List ℕ) (before : Option Node) (xs : List ℕ) (f : ℕ) → last_frame_or None xs ≡ Some f → last_or before (map (node_of os) xs) ≡ Some (node_of os f)
tail_node os before [] f e = absurd (cc)
tail_node os before (x ∷ []) f e = let same : x ≡ f = cc in ap (λ i. Some (node_of os i)) same
tail_node os before (x ∷ y ∷ ys) f e = tail_node os (Some (node_of os x)) (y ∷ ys) f e

-- the one at the tail has the last place
pub tail_place : (os : List ℕ) (xs : List ℕ) (r : Option ℕ) → ((x : ℕ) → times x xs ≤ 1) → r ≡ last_frame_or None xs
    → IfSome r (λ f. place_of f (map (node_of os) xs) + 1 ≡ length (map (node_of os) xs))
tail_place os xs None once e = tt
tail_place os xs (Some f) once e = by_split (last_there xs f (sym e))
  where
    by_split : (front : List ℕ) × (xs ≡ front ++ f ∷ []) → place_of f (map (node_of os) xs) + 1 ≡ length (map (node_of os) xs)
    by_split t =
        let front = t.0 in
        let there = place_is os f front [] (none_before f front [] (subst (λ ys. times f ys ≤ 1) t.1 (once f))) in
        let at = ap (λ ys. place_of f (map (node_of os) ys)) t.1 in
        omega (arith, there, at, length-map xs (node_of os), ap length t.1, length-append front (f ∷ []))

-- the one before another has the place before
pub before_place : (os : List ℕ) (f : ℕ) (front back : List ℕ) (r : Option ℕ) → ((x : ℕ) → times x (front ++ f ∷ back) ≤ 1) → r ≡ last_frame_or None front
    → IfSome r (λ n. place_of n (map (node_of os) (front ++ f ∷ back)) + 1 ≡ place_of f (map (node_of os) (front ++ f ∷ back)))
before_place os f front back None once e = tt
before_place os f front back (Some n) once e = by_split (last_there front n (sym e))
  where
    by_split : (more : List ℕ) × (front ≡ more ++ n ∷ []) → place_of n (map (node_of os) (front ++ f ∷ back)) + 1 ≡ place_of f (map (node_of os) (front ++ f ∷ back))
    by_split t =
        let more = t.0 in
        let whole : front ++ f ∷ back ≡ more ++ n ∷ f ∷ back = ap (λ ys. ys ++ f ∷ back) t.1 ∙ append_assoc more (n ∷ []) (f ∷ back) in
        let here = place_is os f front back (none_before f front back (once f)) in
        let there = place_is os n more (f ∷ back) (none_before n more (f ∷ back) (subst (λ ys. times n ys ≤ 1) whole (once n))) in
        let at = ap (λ ys. place_of n (map (node_of os) ys)) whole in
        omega (arith, here, there, at, ap length t.1, length-append more (n ∷ []))
