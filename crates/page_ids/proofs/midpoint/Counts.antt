-- How many keys of the LRU list pass a test, after each rule.
use Rattle.std.proofs.Common.{◌≡◌, ◌∙◌, ◌+◌, ◌<◌, ℕ, suc, Bool, true, false, not, cond, List, [], ◌∷◌, inl, inr, length, get_or, set, Some, None, ap, arith, unwrap_or}
use Rattle.std.specs.Prelude.{remove, slice_set}
use Rattle.std.specs.Option.{option_map_or}
use Rattle.std.proofs.lemmas.List.Sums.{sum_by-cons, sum_by-insert, sum_by-remove, sum_by-set, get_or-le-sum_by, passes_at_first}
use Rattle.std.proofs.lemmas.Bool.{cases_eq}
use Rattle.std.proofs.lemmas.Option.{slice_get-get_or, slice_get_cases}
use Rattle.page_ids.specs.Midpoint.{Numbers, Listed, Order, place_of, count_of, read_in, touch, touched, moves, evict, relocate, IsListed}

module _ {K : Type 0} where
  abbrev weight : (K → Bool) → Listed K → ℕ
  weight p x = cond (p x.key) 1 0

  at_cases : (is : K → K → Bool) (key : K) (xs : List (Listed K)) (b : Bool) → (0 < count_of (λ k. is k key) xs → place_of is key xs < length xs)
      → 0 < cond b 1 0 + count_of (λ k. is k key) xs → cond (not b) (1 + place_of is key xs) 0 < suc (length xs)
  at_cases is key xs true rest h = omega arith
  at_cases is key xs false rest h = omega (arith, rest (omega arith))

  -- a key that is counted is listed
  pub listed_from_count : (is : K → K → Bool) (key : K) (xs : List (Listed K)) → 0 < count_of (λ k. is k key) xs → place_of is key xs < length xs
  listed_from_count is key [] h = omega arith
  listed_from_count is key (x ∷ xs) h =
      let e = sum_by-cons (weight (λ k. is k key)) x xs in
      at_cases is key xs (is x.key key) (λ l. listed_from_count is key xs l) (omega (arith, e, h))

  -- one that stands somewhere is counted
  pub count_from_place : (p : K → Bool) (xs : List (Listed K)) (i : ℕ) (d : Listed K) → i < length xs → p (get_or xs i d).key ≡ true → 0 < count_of p xs
  count_from_place p xs i d l e = let same = ap {B = ℕ} (λ b. cond b 1 0) e in omega (arith, get_or-le-sum_by (weight p) xs i d l, same)

  -- a key that is not listed is not counted
  pub none_listed : (is : K → K → Bool) (key : K) (o : Order K) → ¬ IsListed is key o → count_of (λ k. is k key) o.listed ≡ 0
  none_listed is key o away = elim (cases_eq (count_of (λ k. is k key) o.listed) 0) [
    | inl e ↦ e
    | inr ne ↦ absurd (away (listed_from_count is key o.listed (omega (arith, ne))))
  ]

  pub count-read_in : (p : K → Bool) (n : Numbers) (key : K) (o : Order K) → count_of p (read_in n key o).listed ≡ count_of p o.listed + cond (p key) 1 0
  count-read_in p n key o = sum_by-insert (weight p) o.listed _ _

  count-touched : (p : K → Bool) (now evicts : ℕ) (xs : List (Listed K)) (i : ℕ) (x : Listed K) → i < length xs → get_or xs i x ≡ x → (b : Bool)
      → count_of p (cond b (record { key = x.key; first = Some (unwrap_or x.first now); since = evicts } ∷ remove xs i) (set xs i (record { key = x.key; first = Some (unwrap_or x.first now); since = x.since })))
      ≡ count_of p xs
  count-touched p now evicts xs i x l at true =
      let y : Listed K = record { key = x.key; first = Some (unwrap_or x.first now); since = evicts } in
      let same = ap (weight p) at in
      omega (arith, sum_by-remove (weight p) xs i x l, sum_by-cons (weight p) y (remove xs i), same)
  count-touched p now evicts xs i x l at false =
      let z : Listed K = record { key = x.key; first = Some (unwrap_or x.first now); since = x.since } in
      let same = ap (weight p) at in
      omega (arith, sum_by-set (weight p) xs i z x l, same)

  pub count-touch : (is : K → K → Bool) (p : K → Bool) (n : Numbers) (key : K) (now : ℕ) (o : Order K) → count_of p (touch is n key now o).listed ≡ count_of p o.listed
  count-touch is p n key now o =
      let xs = o.listed in
      let i = place_of is key xs in
      elim ((slice_get_cases xs i).1) [
        | inl f ↦ ap (λ z. count_of p (option_map_or (λ y. touched n now o i y) z xs)) f.2 ∙ count-touched p now o.evicts xs i f.0 f.1 f.3 (moves n now o i f.0)
        | inr e ↦ ap (λ z. count_of p (option_map_or (λ y. touched n now o i y) z xs)) e.1
      ]

  pub count-evict : (is : K → K → Bool) (p : K → Bool) (key : K) (o : Order K) → ((x : K) → is x key ≡ true → p x ≡ p key) → IsListed is key o
      → count_of p (evict is key o).listed + cond (p key) 1 0 ≡ count_of p o.listed
  count-evict is p key o alike l =
      let blank : Listed K = record { key = key; first = None; since = 0 } in
      let i = place_of is key o.listed in
      let same = ap {B = ℕ} (λ b. cond b 1 0) (alike _ (passes_at_first (λ (x : Listed K). is x.key key) o.listed blank l)) in
      omega (arith, sum_by-remove (weight p) o.listed i blank l, same)

  pub count-relocate : (is : K → K → Bool) (p : K → Bool) (old new : K) (o : Order K) → ((x : K) → is x old ≡ true → p x ≡ p old) → IsListed is old o
      → count_of p (relocate is old new o).listed + cond (p old) 1 0 ≡ count_of p o.listed + cond (p new) 1 0
  count-relocate is p old new o alike l =
      let xs = o.listed in
      let blank : Listed K = record { key = old; first = None; since = 0 } in
      let i = place_of is old xs in
      let x = get_or xs i blank in
      let y : Listed K = record { key = new; first = x.first; since = x.since } in
      let same = ap {B = ℕ} (λ b. cond b 1 0) (alike _ (passes_at_first (λ (x : Listed K). is x.key old) xs blank l)) in
      let e = ap (λ z. count_of p (option_map_or (λ (x : Listed K). slice_set xs i (record { key = new; first = x.first; since = x.since })) z xs)) (slice_get-get_or xs i blank l) in
      omega (arith, e, sum_by-set (weight p) xs i y blank l, same)
