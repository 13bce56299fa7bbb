-- What the rules of the LRU list come to: where a page is put in, which ones are old, and that the others keep their order.
use Rattle.std.proofs.Common.{◌≡◌, ◌≢◌, ◌∙◌, ◌+◌, ◌-◌, ◌*◌, ◌/◌, ◌<◌, ◌≤◌, ℕ, suc, zero, Bool, true, false, not, cond, List, [], ◌∷◌, ◌++◌, inl, inr, length, get_or, set, take, drop, Option, Some, None, refl, sym, ap, arith, unwrap_or, eqb, nat_le}
use Rattle.std.specs.Prelude.{insert, remove, filter, slice_get, slice_set, count_by}
use Rattle.std.specs.Option.{option_map_or}
use Rattle.std.specs.List.{position_or_len}
use Rattle.std.proofs.lemmas.List.{take-append-drop, length-drop, length-set}
use Rattle.std.proofs.lemmas.List.Folds.{position_or_len-set}
use Rattle.std.proofs.lemmas.List.Elements.{filter-append}
use Rattle.std.proofs.lemmas.List.Edits.{get_or-insert_at, get_or-insert_below, length-insert, length-remove}
use Rattle.std.proofs.lemmas.List.Sums.{position_or_len_is, fails_before_first, passes_at_first, sum_by-cons}
use Rattle.std.proofs.lemmas.Bool.{true≢false, eq-eqb, ne_eqb}
use Rattle.std.proofs.lemmas.Option.{slice_get_cases}
use Rattle.page_ids.specs.Midpoint.{Numbers, Listed, Order, old_length, young_length, old_part, midpoint, place_of, count_of, read_in, touch, touched, moves, evict, relocate, IsListed, becomes_young}

share_within : (len pct : ℕ) → pct ≤ 100 → len * pct / 100 ≤ len
share_within zero pct few = omega arith
share_within (suc len) pct few = let rest = share_within len pct few in omega (arith, rest)

-- no more are old than there are
pub old_within : (n : Numbers) (len : ℕ) → n.pct ≤ 100 → old_length n len ≤ len
old_within n len few = by_test (nat_le n.min len)
  where
    by_test : (b : Bool) → cond b (len * n.pct / 100) 0 ≤ len
    by_test true = share_within len n.pct few
    by_test false = omega arith

pub midpoint_within : (n : Numbers) (len : ℕ) → midpoint n len ≤ len
midpoint_within n len = by_test (eqb (old_length n len) 0)
  where
    by_test : (b : Bool) → cond b 0 (young_length n len) ≤ len
    by_test true = omega arith
    by_test false = omega arith

-- the midpoint is the place just before the old ones, where something is old
pub midpoint_is : (n : Numbers) (len : ℕ) → old_length n len ≢ 0 → midpoint n len ≡ len - old_length n len
midpoint_is n len some = ap (λ b. cond b 0 (young_length n len)) (ne_eqb _ _ some)

-- and else the head
pub midpoint_is_head : (n : Numbers) (len : ℕ) → old_length n len ≡ 0 → midpoint n len ≡ 0
midpoint_is_head n len none = ap (λ b. cond b 0 (young_length n len)) (eq-eqb _ _ none)

module _ {X : Type 0} where
  no_more : (p : X → Bool) (xs : List X) → count_by p xs ≡ 0 → filter (λ x. not (p x)) xs ≡ xs
  no_more p [] none = refl
  no_more p (x ∷ xs) none = by_test (λ e. no_more p xs e) (p x) refl
    where
      by_test : (count_by p xs ≡ 0 → filter (λ x. not (p x)) xs ≡ xs) → (b : Bool) → p x ≡ b → filter (λ x. not (p x)) (x ∷ xs) ≡ x ∷ xs
      by_test next true e = let here = ap {B = ℕ} (λ b. cond b 1 0) e in absurd (omega (arith, here, none, sum_by-cons (λ x. cond {A = ℕ} (p x) 1 0) x xs))
      by_test next false e = let here = ap {B = ℕ} (λ b. cond b 1 0) e in
          ap (λ b. cond (not b) (x ∷ filter (λ x. not (p x)) xs) (filter (λ x. not (p x)) xs)) e
          ∙ ap (λ ys. x ∷ ys) (next (omega (arith, here, none, sum_by-cons (λ x. cond {A = ℕ} (p x) 1 0) x xs)))

  -- one that fails the test can be taken out or exchanged
  filter-remove : (q : X → Bool) (xs : List X) (i : ℕ) (d : X) → q (get_or xs i d) ≡ false → filter q (remove xs i) ≡ filter q xs
  filter-remove q [] zero d e = refl
  filter-remove q [] (suc i) d e = refl
  filter-remove q (x ∷ xs) zero d e = sym (ap (λ b. cond b (x ∷ filter q xs) (filter q xs)) e)
  filter-remove q (x ∷ xs) (suc i) d e = ap (λ ys. cond (q x) (x ∷ ys) ys) (filter-remove q xs i d e)

  filter-set : (q : X → Bool) (xs : List X) (i : ℕ) (y d : X) → q (get_or xs i d) ≡ false → q y ≡ false → filter q (set xs i y) ≡ filter q xs
  filter-set q [] i y d e f = refl
  filter-set q (x ∷ xs) zero y d e f = ap (λ b. cond b (y ∷ filter q xs) (filter q xs)) f ∙ sym (ap (λ b. cond b (x ∷ filter q xs) (filter q xs)) e)
  filter-set q (x ∷ xs) (suc i) y d e f = ap (λ ys. cond (q x) (x ∷ ys) ys) (filter-set q xs i y d e f)

  filter-insert : (q : X → Bool) (xs : List X) (i : ℕ) (y : X) → q y ≡ false → filter q (insert xs i y) ≡ filter q xs
  filter-insert q xs i y e =
      filter-append q (take i xs) (y ∷ drop i xs)
      ∙ ap (λ b. filter q (take i xs) ++ cond b (y ∷ filter q (drop i xs)) (filter q (drop i xs))) e
      ∙ sym (filter-append q (take i xs) (drop i xs))
      ∙ ap (filter q) (take-append-drop i xs)

  remove_next : (x : X) (xs : List X) (i : ℕ) → remove (x ∷ xs) (1 + i) ≡ x ∷ remove xs i
  remove_next x xs i = let next : 1 + i ≡ suc i = omega arith in ap (λ k. remove (x ∷ xs) k) next

  -- the first one that passes, where no more than one does
  take_out : (p : X → Bool) (xs : List X) → count_by p xs ≤ 1 → remove xs (position_or_len p xs) ≡ filter (λ x. not (p x)) xs
  take_out p [] once = refl
  take_out p (x ∷ xs) once = by_test (λ e. take_out p xs e) (p x) refl
    where
      by_test : (count_by p xs ≤ 1 → remove xs (position_or_len p xs) ≡ filter (λ x. not (p x)) xs) → (b : Bool) → p x ≡ b
          → remove (x ∷ xs) (position_or_len p (x ∷ xs)) ≡ filter (λ x. not (p x)) (x ∷ xs)
      by_test next true e = let here = ap {B = ℕ} (λ b. cond b 1 0) e in
          ap (λ b. remove (x ∷ xs) (cond (not b) (1 + position_or_len p xs) 0)) e
          ∙ sym (no_more p xs (omega (arith, here, once, sum_by-cons (λ x. cond {A = ℕ} (p x) 1 0) x xs)))
          ∙ sym (ap (λ b. cond (not b) (x ∷ filter (λ x. not (p x)) xs) (filter (λ x. not (p x)) xs)) e)
      by_test next false e = let here = ap {B = ℕ} (λ b. cond b 1 0) e in
          ap (λ b. remove (x ∷ xs) (cond (not b) (1 + position_or_len p xs) 0)) e
          ∙ remove_next x xs (position_or_len p xs)
          ∙ ap (λ ys. x ∷ ys) (next (omega (arith, here, once, sum_by-cons (λ x. cond {A = ℕ} (p x) 1 0) x xs)))
          ∙ sym (ap (λ b. cond (not b) (x ∷ filter (λ x. not (p x)) xs) (filter (λ x. not (p x)) xs)) e)

module _ {K : Type 0} where
  -- so many are old as the old length says, whatever happened
  pub old_are_last : (n : Numbers) (o : Order K) → n.pct ≤ 100 → length (old_part n o) ≡ old_length n (length o.listed)
  old_are_last n o few = let within = old_within n (length o.listed) few in omega (arith, length-drop (young_length n (length o.listed)) o.listed, within)

  pub length-read_in : (n : Numbers) (key : K) (o : Order K) → length (read_in n key o).listed ≡ length o.listed + 1
  length-read_in n key o = length-insert o.listed _ _ (midpoint_within n (length o.listed))

  length-touched : (now evicts : ℕ) (xs : List (Listed K)) (i : ℕ) (x y : Listed K) → i < length xs → (b : Bool) → length (cond b (x ∷ remove xs i) (set xs i y)) ≡ length xs
  length-touched now evicts xs i x y l true = omega (arith, length-remove xs i l)
  length-touched now evicts xs i x y l false = length-set xs i y

  pub length-touch : (is : K → K → Bool) (n : Numbers) (key : K) (now : ℕ) (o : Order K) → length (touch is n key now o).listed ≡ length o.listed
  length-touch is n key now o =
      let xs = o.listed in
      let i = place_of is key xs in
      elim ((slice_get_cases xs i).1) [
        | inl f ↦ ap (λ z. length (option_map_or (λ y. touched n now o i y) z xs)) f.2 ∙ length-touched now o.evicts xs i _ _ f.1 (moves n now o i f.0)
        | inr e ↦ ap (λ z. length (option_map_or (λ y. touched n now o i y) z xs)) e.1
      ]

  pub length-evict : (is : K → K → Bool) (key : K) (o : Order K) → IsListed is key o → length (evict is key o).listed + 1 ≡ length o.listed
  length-evict is key o l = length-remove o.listed _ l

  pub length-relocate : (is : K → K → Bool) (old new : K) (o : Order K) → length (relocate is old new o).listed ≡ length o.listed
  length-relocate is old new o =
      let xs = o.listed in
      let i = place_of is old xs in
      let moved = λ (z : Option (Listed K)). option_map_or (λ (x : Listed K). slice_set xs i (record { key = new; first = x.first; since = x.since })) z xs in
      elim ((slice_get_cases xs i).1) [
        | inl f ↦ ap (λ z. length (moved z)) f.2 ∙ length-set xs i _
        | inr e ↦ ap (λ z. length (moved z)) e.1
      ]

  -- so after each rule the last ones, as many as the old length of the new list, are old
  pub old-read_in : (n : Numbers) (key : K) (o : Order K) → n.pct ≤ 100 → length (old_part n (read_in n key o)) ≡ old_length n (length o.listed + 1)
  old-read_in n key o few = old_are_last n (read_in n key o) few ∙ ap (old_length n) (length-read_in n key o)

  pub old-touch : (is : K → K → Bool) (n : Numbers) (key : K) (now : ℕ) (o : Order K) → n.pct ≤ 100 → length (old_part n (touch is n key now o)) ≡ old_length n (length o.listed)
  old-touch is n key now o few = old_are_last n (touch is n key now o) few ∙ ap (old_length n) (length-touch is n key now o)

  pub old-evict : (is : K → K → Bool) (n : Numbers) (key : K) (o : Order K) → n.pct ≤ 100 → IsListed is key o → length (old_part n (evict is key o)) ≡ old_length n (length o.listed - 1)
  old-evict is n key o few l =
      let less : length (evict is key o).listed ≡ length o.listed - 1 = omega (arith, length-evict is key o l) in
      old_are_last n (evict is key o) few ∙ ap (old_length n) less

  pub old-relocate : (is : K → K → Bool) (n : Numbers) (old new : K) (o : Order K) → n.pct ≤ 100 → length (old_part n (relocate is old new o)) ≡ old_length n (length o.listed)
  old-relocate is n old new o few = old_are_last n (relocate is old new o) few ∙ ap (old_length n) (length-relocate is old new o)

  -- a page that was not listed stands at the midpoint
  pub read_in_stands : (is : K → K → Bool) (n : Numbers) (key : K) (o : Order K) → is key key ≡ true → ¬ IsListed is key o
      → place_of is key (read_in n key o).listed ≡ midpoint n (length o.listed)
  read_in_stands is n key o same away =
      let xs = o.listed in
      let p = λ (x : Listed K). is x.key key in
      let at = midpoint n (length xs) in
      let y : Listed K = record { key = key; first = None; since = o.evicts } in
      let within = midpoint_within n (length xs) in
      position_or_len_is p (insert xs at y) at y (omega (arith, within, length-insert xs at y within))
      (λ k l. ap p (get_or-insert_below xs at y y k l within) ∙ fails_before_first p xs k y (omega arith))
      (λ l. ap p (get_or-insert_at xs at y y within) ∙ same)

  -- what a touch of a listed page makes of the list, by its test
  touch_is : (is : K → K → Bool) (n : Numbers) (key : K) (now : ℕ) (o : Order K) (x : Listed K) → slice_get o.listed (place_of is key o.listed) ≡ Some x → (b : Bool) → becomes_young is n key now o ≡ b
      → (touch is n key now o).listed
      ≡ cond b (record { key = x.key; first = Some (unwrap_or x.first now); since = o.evicts } ∷ remove o.listed (place_of is key o.listed))
      (set o.listed (place_of is key o.listed) (record { key = x.key; first = Some (unwrap_or x.first now); since = x.since }))
  touch_is is n key now o x found b test =
      let xs = o.listed in
      let i = place_of is key xs in
      ap (λ z. option_map_or (λ y. touched n now o i y) z xs) found
      ∙ ap (λ t. cond t (record { key = x.key; first = Some (unwrap_or x.first now); since = o.evicts } ∷ remove xs i) (set xs i (record { key = x.key; first = Some (unwrap_or x.first now); since = x.since })))
      (sym (ap (λ z. option_map_or (λ y. moves n now o i y) z false) found) ∙ test)

  -- one that becomes young stands at the head
  pub touch_young : (is : K → K → Bool) (n : Numbers) (key : K) (now : ℕ) (o : Order K) → becomes_young is n key now o ≡ true → place_of is key (touch is n key now o).listed ≡ 0
  touch_young is n key now o test =
      let xs = o.listed in
      let i = place_of is key xs in
      elim ((slice_get_cases xs i).1) [
        | inl f ↦
            let x : Listed K = f.0 in
            let passes : is x.key key ≡ true = ap (λ (x : Listed K). is x.key key) (sym f.3) ∙ passes_at_first (λ (x : Listed K). is x.key key) xs x f.1 in
            ap (place_of is key) (touch_is is n key now o x f.2 true test) ∙ ap {B = ℕ} (λ b. cond (not b) (1 + place_of is key (remove xs i)) 0) passes
        | inr e ↦ absurd (true≢false (sym test ∙ ap (λ z. option_map_or (λ y. moves n now o i y) z false) e.1))
      ]

  -- and another one keeps its place
  pub touch_stays : (is : K → K → Bool) (n : Numbers) (key : K) (now : ℕ) (o : Order K) → becomes_young is n key now o ≡ false
      → place_of is key (touch is n key now o).listed ≡ place_of is key o.listed
  touch_stays is n key now o test =
      let xs = o.listed in
      let i = place_of is key xs in
      elim ((slice_get_cases xs i).1) [
        | inl f ↦
            let x : Listed K = f.0 in
            let y : Listed K = record { key = x.key; first = Some (unwrap_or x.first now); since = x.since } in
            ap (place_of is key) (touch_is is n key now o x f.2 false test)
            ∙ position_or_len-set (λ (x : Listed K). is x.key key) xs i y x (ap (λ (x : Listed K). is x.key key) (sym f.3))
        | inr e ↦ ap (λ z. place_of is key (option_map_or (λ y. touched n now o i y) z xs)) e.1
      ]

  -- the others keep their order ..
  pub read_in_keeps : (is : K → K → Bool) (n : Numbers) (key : K) (o : Order K) → is key key ≡ true
      → filter (λ x. not (is x.key key)) (read_in n key o).listed ≡ filter (λ x. not (is x.key key)) o.listed
  read_in_keeps is n key o same = filter-insert _ o.listed _ _ (ap not same)

  pub touch_keeps : (is : K → K → Bool) (n : Numbers) (key : K) (now : ℕ) (o : Order K)
      → filter (λ x. not (is x.key key)) (touch is n key now o).listed ≡ filter (λ x. not (is x.key key)) o.listed
  touch_keeps is n key now o =
      let xs = o.listed in
      let i = place_of is key xs in
      elim ((slice_get_cases xs i).1) [
        | inl f ↦ ap (λ z. filter (λ x. not (is x.key key)) (option_map_or (λ y. touched n now o i y) z xs)) f.2
            ∙ by_test xs i f.0 f.3 (ap (λ x. is x.key key) (sym f.3) ∙ passes_at_first (λ (x : Listed K). is x.key key) xs f.0 f.1) (moves n now o i f.0)
        | inr e ↦ ap (λ z. filter (λ x. not (is x.key key)) (option_map_or (λ y. touched n now o i y) z xs)) e.1
      ]
    where
      by_test : (xs : List (Listed K)) (i : ℕ) (x : Listed K) → get_or xs i x ≡ x → is x.key key ≡ true → (b : Bool)
          → filter (λ x. not (is x.key key))
          (cond b (record { key = x.key; first = Some (unwrap_or x.first now); since = o.evicts } ∷ remove xs i) (set xs i (record { key = x.key; first = Some (unwrap_or x.first now); since = x.since })))
          ≡ filter (λ x. not (is x.key key)) xs
      by_test xs i x at found true =
          let y : Listed K = record { key = x.key; first = Some (unwrap_or x.first now); since = o.evicts } in
          ap (λ b. cond (not b) (y ∷ filter (λ x. not (is x.key key)) (remove xs i)) (filter (λ x. not (is x.key key)) (remove xs i))) found
          ∙ filter-remove (λ x. not (is x.key key)) xs i x (ap (λ x. not (is x.key key)) at ∙ ap not found)
      by_test xs i x at found false =
          let z : Listed K = record { key = x.key; first = Some (unwrap_or x.first now); since = x.since } in
          filter-set (λ x. not (is x.key key)) xs i z x (ap (λ x. not (is x.key key)) at ∙ ap not found) (ap not found)

  -- .. and an evict leaves just them
  pub evict_keeps : (is : K → K → Bool) (key : K) (o : Order K) → count_of (λ k. is k key) o.listed ≤ 1 → (evict is key o).listed ≡ filter (λ x. not (is x.key key)) o.listed
  evict_keeps is key o once = take_out (λ x. is x.key key) o.listed once
