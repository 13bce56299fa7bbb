-- The frames of the list stay apart and below the room, and there is room for a new one.
use Rattle.std.proofs.Common.{◌≡◌, ◌≢◌, ◌∙◌, ◌<◌, ◌≤◌, ◌==◌, ℕ, true, cond, List, inl, inr, length, None, refl, sym, ap, arith}
use Rattle.std.specs.Prelude.{remove}
use Rattle.std.proofs.lemmas.List.Sums.{passes_at_first}
use Rattle.std.proofs.lemmas.Bool.{eqb-true, ne_eqb, eq-eqb, cases_eq, cases_lt}
use Rattle.page_ids.specs.Midpoint.{Listed, place_of, count_of, read_in, touch, evict, relocate}
use Rattle.page_ids.proofs.midpoint.Counts.{count-read_in, count-touch, count-evict, count-relocate, count_from_place, none_listed}
use Rattle.midpoint_lru.specs.View.{View, Has, IsNew}
use Rattle.midpoint_lru.specs.Inside.{AreListedOnce}

abbrev pub blank : Listed ℕ
blank = record { key = 0; first = None; since = 0 }

abbrev times : ℕ → List (Listed ℕ) → ℕ
times f xs = count_of (λ k. k == f) xs

-- a frame that is new is counted nowhere
new_none : (v : View) (key f : ℕ) → IsNew v key → key ≡ f → times f v.order.listed ≡ 0
new_none v key f new e = ap (λ k. times k v.order.listed) (sym e) ∙ none_listed ◌==◌ key v.order new.away

own : (key : ℕ) → cond {A = ℕ} (key == key) 1 0 ≡ 1
own key = ap {B = ℕ} (λ b. cond b 1 0) (eq-eqb key key refl)

same_one : (key f : ℕ) → key ≡ f → cond {A = ℕ} (key == f) 1 0 ≡ 1
same_one key f e = ap {B = ℕ} (λ b. cond b 1 0) (eq-eqb key f e)

other_none : (key f : ℕ) → key ≢ f → cond {A = ℕ} (key == f) 1 0 ≡ 0
other_none key f ne = ap {B = ℕ} (λ b. cond b 1 0) (ne_eqb key f ne)

pub frames-read_in : (v : View) (key : ℕ) → AreListedOnce v → IsNew v key → AreListedOnce (record v { order = read_in v.numbers key v.order })
frames-read_in v key h new = record {
  once = λ f. elim (cases_eq key f) [
    | inl e ↦ omega (arith, count-read_in (λ k. k == f) v.numbers key v.order, same_one key f e, new_none v key f new e)
    | inr ne ↦ omega (arith, count-read_in (λ k. k == f) v.numbers key v.order, other_none key f ne, h.once f)
  ];
  below = λ f l. omega (arith, count-read_in (λ k. k == f) v.numbers key v.order, other_none key f (λ e. absurd (omega (arith, e, new.room, l))), h.below f l);
}

pub frames-touch : (v : View) (key now : ℕ) → AreListedOnce v → AreListedOnce (record v { order = touch ◌==◌ v.numbers key now v.order })
frames-touch v key now h = record {
  once = λ f. omega (arith, count-touch ◌==◌ (λ k. k == f) v.numbers key now v.order, h.once f);
  below = λ f l. omega (arith, count-touch ◌==◌ (λ k. k == f) v.numbers key now v.order, h.below f l);
}

alike : (f key x : ℕ) → (x == key) ≡ true → (x == f) ≡ (key == f)
alike f key x e = ap (λ k. k == f) (eqb-true x key e)

pub frames-evict : (v : View) (key : ℕ) → AreListedOnce v → Has v key → AreListedOnce (record v { order = evict ◌==◌ key v.order })
frames-evict v key h there = record {
  once = λ f. omega (arith, count-evict ◌==◌ (λ k. k == f) key v.order (alike f key) there, h.once f);
  below = λ f l. omega (arith, count-evict ◌==◌ (λ k. k == f) key v.order (alike f key) there, h.below f l);
}

pub frames-relocate : (v : View) (old new : ℕ) → AreListedOnce v → Has v old → IsNew v new → AreListedOnce (record v { order = relocate ◌==◌ old new v.order })
frames-relocate v old new h there fresh = record {
  once = λ f. let e = count-relocate ◌==◌ (λ k. k == f) old new v.order (alike f old) there in elim (cases_eq new f) [
    | inl same ↦ omega (arith, e, same_one new f same, new_none v new f fresh same)
    | inr ne ↦ omega (arith, e, other_none new f ne, h.once f)
  ];
  below = λ f l. let e = count-relocate ◌==◌ (λ k. k == f) old new v.order (alike f old) there in
      omega (arith, e, other_none new f (λ same. absurd (omega (arith, same, fresh.room, l))), h.below f l);
}

pub frames-grow : (v : View) (frames : ℕ) → v.room ≤ frames → AreListedOnce v → AreListedOnce (record v { room = frames })
frames-grow v frames more h = record {
  once = h.once;
  below = λ f l. h.below f (omega (arith, more, l));
}

-- a listed frame is below the room
pub below_there : (v : View) (key : ℕ) → AreListedOnce v → Has v key → key < v.room
below_there v key h there = elim (cases_lt key v.room) [
  | inl less ↦ less
  | inr past ↦ absurd (omega (arith, h.below key past, count_from_place (λ k. k == key) v.order.listed (place_of ◌==◌ key v.order.listed) blank there (passes_at_first (λ (x : Listed ℕ). x.key == key) v.order.listed blank there)))
]

-- and where it goes out, it is listed no more
pub out_after : (v : View) (key : ℕ) → AreListedOnce v → Has v key
    → let xs = remove v.order.listed (place_of ◌==◌ key v.order.listed) in ¬ (place_of ◌==◌ key xs < length xs)
out_after v key h there l =
    let xs = remove v.order.listed (place_of ◌==◌ key v.order.listed) in
    let count = count-evict ◌==◌ (λ k. k == key) key v.order (alike key key) there in
    let some = count_from_place (λ k. k == key) xs (place_of ◌==◌ key xs) blank l (passes_at_first (λ (x : Listed ℕ). x.key == key) xs blank l) in
    absurd (omega (arith, count, own key, h.once key, some))
