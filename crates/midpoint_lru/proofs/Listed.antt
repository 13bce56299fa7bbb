-- The list over the list of its frames.
use Rattle.std.proofs.Common.{◌≡◌, ◌≢◌, ◌∙◌, ◌+◌, ◌-◌, ◌<◌, ◌≤◌, ◌==◌, ℕ, suc, not, cond, List, [], ◌∷◌, ◌++◌, inl, inr, length, Option, Some, None, refl, sym, ap, subst, append_assoc, arith}
use Rattle.std.specs.Prelude.{map, remove, insert, slice_get, slice_set, IfSome}
use Rattle.std.specs.Option.{option_map}
use Rattle.std.proofs.lemmas.List.{length-map, length-append, map-append}
use Rattle.std.proofs.lemmas.Bool.{cases_eq, cases_lt, ne_eqb, eq-eqb}
use Rattle.link_lists.specs.Grid.{times}
use Rattle.link_lists.specs.Chains.{last}
use Rattle.link_lists.proofs.Times.{times-cons, times_at, times_past, none_before, last_there}
use Rattle.page_ids.specs.Midpoint.{Listed, place_of}
use Rattle.midpoint_lru.specs.declared.sublists.Member.{Member}
use Rattle.midpoint_lru.specs.View.{place_up_to, next_up}
use Rattle.midpoint_lru.specs.Sublists.{listed_of}

-- one of a list, between those in front of it and those behind it
module _ {X : Type 0} where
  pub remove_there : (front back : List X) (x : X) → remove (front ++ x ∷ back) (length front) ≡ front ++ back
  remove_there [] back x = refl
  remove_there (y ∷ ys) back x = ap (λ zs. y ∷ zs) (remove_there ys back x)

  pub get_there : (front back : List X) (x : X) → slice_get (front ++ x ∷ back) (length front) ≡ Some x
  get_there [] back x = refl
  get_there (y ∷ ys) back x = get_there ys back x

  pub set_there : (front back : List X) (x y : X) → slice_set (front ++ x ∷ back) (length front) y ≡ front ++ y ∷ back
  set_there [] back x y = refl
  set_there (z ∷ zs) back x y = ap (λ ys. z ∷ ys) (set_there zs back x y)

  pub insert_there : (front back : List X) (x : X) → insert (front ++ back) (length front) x ≡ front ++ x ∷ back
  insert_there [] back x = refl
  insert_there (y ∷ ys) back x = ap (λ zs. y ∷ zs) (insert_there ys back x)

pub never : (x : ℕ) (xs : List ℕ) → last (x ∷ xs) ≡ None → ⊥
never x [] e = cc
never x (y ∷ ys) e = never y ys e

-- what is found towards the head from a frame, or from behind the tail, and its place
abbrev pub Walked : List (Listed ℕ) → Option ℕ → Option ℕ → Type 0
Walked listed after r = (r ≡ next_up after listed) × IfSome r (λ f. place_of ◌==◌ f listed + 1 ≡ place_up_to after listed)

module _ (ms : List Member) where
  place_here : (f x : ℕ) (xs : List ℕ) → x ≡ f → place_of ◌==◌ f (map (listed_of ms) (x ∷ xs)) ≡ 0
  place_here f x xs e = ap {B = ℕ} (λ b. cond (not b) (1 + place_of ◌==◌ f (map (listed_of ms) xs)) 0) (eq-eqb x f e)

  place_next : (f x : ℕ) (xs : List ℕ) → x ≢ f → place_of ◌==◌ f (map (listed_of ms) (x ∷ xs)) ≡ suc (place_of ◌==◌ f (map (listed_of ms) xs))
  place_next f x xs ne =
      let rest = place_of ◌==◌ f (map (listed_of ms) xs) in
      let here : place_of ◌==◌ f (map (listed_of ms) (x ∷ xs)) ≡ 1 + rest = ap {B = ℕ} (λ b. cond (not b) (1 + rest) 0) (ne_eqb x f ne) in
      omega (arith, here)

  -- a frame that has a place stands among the frames
  pub stands : (f : ℕ) (xs : List ℕ) → place_of ◌==◌ f (map (listed_of ms) xs) < length (map (listed_of ms) xs) → 1 ≤ times f xs
  stands f [] l = absurd (omega arith)
  stands f (x ∷ xs) l = elim (cases_eq x f) [
    | inl e ↦ subst (λ i. 1 ≤ times i (x ∷ xs)) e (omega (arith, times_at x xs))
    | inr ne ↦ omega (arith, times_past f x xs ne, stands f xs (omega (arith, l, place_next f x xs ne)))
  ]

  has_place : (f : ℕ) (xs : List ℕ) → 1 ≤ times f xs → place_of ◌==◌ f (map (listed_of ms) xs) < length (map (listed_of ms) xs)
  has_place f [] there = absurd (omega arith)
  has_place f (x ∷ xs) there = elim (cases_eq x f) [
    | inl e ↦ omega (arith, place_here f x xs e)
    | inr ne ↦ omega (arith, place_next f x xs ne, has_place f xs (omega (arith, there, times_past f x xs ne)))
  ]

  pub none_stands : (f : ℕ) (xs : List ℕ) → ¬ (place_of ◌==◌ f (map (listed_of ms) xs) < length (map (listed_of ms) xs)) → times f xs ≡ 0
  none_stands f xs away = elim (cases_lt 0 (times f xs)) [
    | inl l ↦ absurd (away (has_place f xs (omega (arith, l))))
    | inr g ↦ omega (arith, g)
  ]

  -- its place
  pub place_is : (f : ℕ) (front back : List ℕ) → times f front ≡ 0 → place_of ◌==◌ f (map (listed_of ms) (front ++ f ∷ back)) ≡ length front
  place_is f [] back none = place_here f f back refl
  place_is f (x ∷ xs) back none = elim (cases_eq x f) [
    | inl e ↦ absurd (omega (arith, none, times_at x xs, ap (λ i. times i (x ∷ xs)) e))
    | inr ne ↦ place_next f x (xs ++ f ∷ back) ne ∙ ap {B = ℕ} (λ k. suc k) (place_is f xs back (omega (arith, none, times_past f x xs ne)))
  ]

  -- the list behind an edit at that place
  module _ (f : ℕ) (front back : List ℕ) (none : times f front ≡ 0) where
    at : place_of ◌==◌ f (map (listed_of ms) (front ++ f ∷ back)) ≡ length (map (listed_of ms) front)
    at = place_is f front back none ∙ sym (length-map front (listed_of ms))

    split : map (listed_of ms) (front ++ f ∷ back) ≡ map (listed_of ms) front ++ listed_of ms f ∷ map (listed_of ms) back
    split = map-append (listed_of ms) front (f ∷ back)

    pub got : slice_get (map (listed_of ms) (front ++ f ∷ back)) (place_of ◌==◌ f (map (listed_of ms) (front ++ f ∷ back))) ≡ Some (listed_of ms f)
    got = ap (slice_get (map (listed_of ms) (front ++ f ∷ back))) at ∙ ap (λ xs. slice_get xs (length (map (listed_of ms) front))) split
        ∙ get_there (map (listed_of ms) front) (map (listed_of ms) back) (listed_of ms f)

    pub removed : map (listed_of ms) (front ++ back) ≡ remove (map (listed_of ms) (front ++ f ∷ back)) (place_of ◌==◌ f (map (listed_of ms) (front ++ f ∷ back)))
    removed = map-append (listed_of ms) front back
        ∙ sym (ap (remove (map (listed_of ms) (front ++ f ∷ back))) at ∙ ap (λ xs. remove xs (length (map (listed_of ms) front))) split
        ∙ remove_there (map (listed_of ms) front) (map (listed_of ms) back) (listed_of ms f))

    pub set_to : (y : Listed ℕ) → map (listed_of ms) front ++ y ∷ map (listed_of ms) back
        ≡ slice_set (map (listed_of ms) (front ++ f ∷ back)) (place_of ◌==◌ f (map (listed_of ms) (front ++ f ∷ back))) y
    set_to y = sym (ap (λ i. slice_set (map (listed_of ms) (front ++ f ∷ back)) i y) at ∙ ap (λ xs. slice_set xs (length (map (listed_of ms) front)) y) split
        ∙ set_there (map (listed_of ms) front) (map (listed_of ms) back) (listed_of ms f) y)

  -- the frame that stands before a place
  next_at : (front back : List ℕ) (f i : ℕ) → i ≡ suc (length front)
      → cond (i == 0) None (option_map (λ (x : Listed ℕ). x.key) (slice_get (map (listed_of ms) (front ++ f ∷ back)) (i - 1))) ≡ Some f
  next_at front back f i e =
      let ne : i ≢ 0 = λ z. absurd (omega (arith, e, z)) in
      let less : i - 1 ≡ length (map (listed_of ms) front) = omega (arith, e, length-map front (listed_of ms)) in
      ap (λ b. cond b None (option_map (λ (x : Listed ℕ). x.key) (slice_get (map (listed_of ms) (front ++ f ∷ back)) (i - 1)))) (ne_eqb i 0 ne)
      ∙ ap (λ k. option_map (λ (x : Listed ℕ). x.key) (slice_get (map (listed_of ms) (front ++ f ∷ back)) k)) less
      ∙ ap (λ xs. option_map (λ (x : Listed ℕ). x.key) (slice_get xs (length (map (listed_of ms) front)))) (map-append (listed_of ms) front (f ∷ back))
      ∙ ap (option_map (λ (x : Listed ℕ). x.key)) (get_there (map (listed_of ms) front) (map (listed_of ms) back) (listed_of ms f))

  -- what is found by following the chain back: the last of those that stand before a place, and it stands one before that
  pub walked : (after r : Option ℕ) (front back : List ℕ) → ((x : ℕ) → times x (front ++ back) ≤ 1)
      → place_up_to after (map (listed_of ms) (front ++ back)) ≡ length front → r ≡ last front → Walked (map (listed_of ms) (front ++ back)) after r
  walked after None front back once up e = (none front up e, tt)
    where
      none : (front : List ℕ) → place_up_to after (map (listed_of ms) (front ++ back)) ≡ length front → None ≡ last front → None ≡ next_up after (map (listed_of ms) (front ++ back))
      none [] up e = sym (ap (λ b. cond b None (option_map (λ (x : Listed ℕ). x.key) (slice_get (map (listed_of ms) back) (place_up_to after (map (listed_of ms) back) - 1)))) (eq-eqb _ 0 up))
      none (x ∷ xs) up e = absurd (never x xs (sym e))
  walked after (Some f) front back once up e = some (last_there front f (sym e))
    where
      some : (more : List ℕ) × (front ≡ more ++ f ∷ []) → Walked (map (listed_of ms) (front ++ back)) after (Some f)
      some t =
          let more = t.0 in
          let whole : front ++ back ≡ more ++ f ∷ back = ap (λ ys. ys ++ back) t.1 ∙ append_assoc more (f ∷ []) back in
          let len : length front ≡ suc (length more) = omega (arith, ap length t.1, length-append more (f ∷ [])) in
          let there = place_is f more back (none_before f more back (subst (λ ys. times f ys ≤ 1) whole (once f))) in
          let here = ap (λ xs. place_of ◌==◌ f (map (listed_of ms) xs)) whole in (
            sym (ap (λ xs. next_up after (map (listed_of ms) xs)) whole
                ∙ next_at more back f (place_up_to after (map (listed_of ms) (more ++ f ∷ back))) (ap (λ xs. place_up_to after (map (listed_of ms) xs)) (sym whole) ∙ up ∙ len)),
            omega (arith, there, here, up, len),
          )

-- frames of which the same is kept make the same list
pub listed_agree : (ms ms' : List Member) (xs : List ℕ) → ((f : ℕ) → 1 ≤ times f xs → listed_of ms' f ≡ listed_of ms f) → map (listed_of ms') xs ≡ map (listed_of ms) xs
listed_agree ms ms' [] h = refl
listed_agree ms ms' (x ∷ xs) h =
    ap (λ y. y ∷ map (listed_of ms') xs) (h x (omega (arith, times_at x xs)))
    ∙ ap (λ ys. listed_of ms x ∷ ys) (listed_agree ms ms' xs (λ f there. h f (omega (arith, there, times-cons f x xs))))
