-- A list that has each frame of a range once is as long as the range.
use Rattle.std.proofs.Common.{◌≡◌, ◌∙◌, ◌+◌, ◌<◌, ◌≤◌, ℕ, suc, zero, List, [], ◌∷◌, inl, inr, length, refl, ap, arith}
use Rattle.std.proofs.lemmas.Bool.{cases_eq}
use Rattle.link_lists.specs.Grid.{times}
use Rattle.link_lists.proofs.Times.{times_at, times_past}
use Rattle.frame_book.proofs.Times.{times-le_cons}

-- how often the frames of a range stand on a list, all together
abbrev counted : ℕ → ℕ → List ℕ → ℕ
counted from zero xs = 0
counted from (suc n) xs = times from xs + counted (from + 1) n xs

counted-nil : (from n : ℕ) → counted from n [] ≡ 0
counted-nil from zero = refl
counted-nil from (suc n) = omega (arith, counted-nil (from + 1) n)

counted-below : (from n x : ℕ) (xs : List ℕ) → x < from → counted from n (x ∷ xs) ≡ counted from n xs
counted-below from zero x xs less = refl
counted-below from (suc n) x xs less = omega (arith, times_past from x xs (λ same. omega (arith, same, less)), counted-below (from + 1) n x xs (omega (arith, less)))

counted-cons : (from n x : ℕ) (xs : List ℕ) → from ≤ x → x < from + n → counted from n (x ∷ xs) ≡ 1 + counted from n xs
counted-cons from zero x xs low high = absurd (omega (arith, low, high))
counted-cons from (suc n) x xs low high = by_test (counted-cons (from + 1) n x xs)
  where
    by_test : (from + 1 ≤ x → x < from + 1 + n → counted (from + 1) n (x ∷ xs) ≡ 1 + counted (from + 1) n xs) → counted from (suc n) (x ∷ xs) ≡ 1 + counted from (suc n) xs
    by_test next = elim (cases_eq x from) [
      | inl same ↦
          let own = ap (λ g. times from (g ∷ xs)) same ∙ times_at from xs in
          omega (arith, own, counted-below (from + 1) n x xs (omega (arith, same)))
      | inr ne ↦ omega (arith, times_past from x xs ne, next (omega (arith, ne, low)) (omega (arith, high)))
    ]

-- all of the list lies in the range
abbrev pub IsWithin : ℕ → ℕ → List ℕ → Type 0
IsWithin from n xs = (f : ℕ) → 0 < times f xs → (from ≤ f) × (f < from + n)

abbrev pub IsOnce : List ℕ → Type 0
IsOnce xs = (f : ℕ) → times f xs ≤ 1

-- the list has each frame of the range
abbrev pub HasAll : ℕ → ℕ → List ℕ → Type 0
HasAll from n xs = (f : ℕ) → from ≤ f → f < from + n → 0 < times f xs

counted-length : (from n : ℕ) (xs : List ℕ) → IsWithin from n xs → counted from n xs ≡ length xs
counted-length from n [] within = counted-nil from n
counted-length from n (x ∷ xs) within =
    let here = within x (omega (arith, times_at x xs)) in
    let rest = counted-length from n xs (λ f l. within f (omega (arith, l, times-le_cons f x xs))) in
    omega (arith, counted-cons from n x xs here.0 here.1, rest)

counted-le : (from n : ℕ) (xs : List ℕ) → IsOnce xs → counted from n xs ≤ n
counted-le from zero xs once = omega arith
counted-le from (suc n) xs once = omega (arith, once from, counted-le (from + 1) n xs once)

counted-all : (from n : ℕ) (xs : List ℕ) → HasAll from n xs → n ≤ counted from n xs
counted-all from zero xs all = omega arith
counted-all from (suc n) xs all =
    omega (arith, all from (omega arith) (omega arith), counted-all (from + 1) n xs (λ f low high. all f (omega (arith, low)) (omega (arith, high))))

all_counted : (from n : ℕ) (xs : List ℕ) → IsOnce xs → n ≤ counted from n xs → HasAll from n xs
all_counted from zero xs once full f low high = absurd (omega (arith, low, high))
all_counted from (suc n) xs once full f low high = by_test (all_counted (from + 1) n xs once (omega (arith, once from, full)))
  where
    by_test : HasAll (from + 1) n xs → 0 < times f xs
    by_test next = elim (cases_eq f from) [
      | inl same ↦
          let here = ap (λ g. times g xs) same in
          omega (arith, here, full, counted-le (from + 1) n xs once)
      | inr ne ↦ next f (omega (arith, ne, low)) (omega (arith, high))
    ]

pub few_once : (from n : ℕ) (xs : List ℕ) → IsWithin from n xs → IsOnce xs → length xs ≤ n
few_once from n xs within once = omega (arith, counted-length from n xs within, counted-le from n xs once)

pub length_from_all : (from n : ℕ) (xs : List ℕ) → IsWithin from n xs → IsOnce xs → HasAll from n xs → length xs ≡ n
length_from_all from n xs within once all = omega (arith, few_once from n xs within once, counted-length from n xs within, counted-all from n xs all)

pub all_from_length : (from n : ℕ) (xs : List ℕ) → IsWithin from n xs → IsOnce xs → length xs ≡ n → HasAll from n xs
all_from_length from n xs within once len = all_counted from n xs once (omega (arith, len, counted-length from n xs within))
