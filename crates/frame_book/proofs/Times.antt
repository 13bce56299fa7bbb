-- How often a frame stands on a list.
use Rattle.std.proofs.Common.{◌≡◌, ◌==◌, ◌∙◌, ◌+◌, ◌<◌, ◌≤◌, ℕ, suc, zero, Bool, true, false, cond, List, [], ◌∷◌, inl, inr, drop, refl, sym, ap, arith}
use Rattle.std.specs.Prelude.{filter}
use Rattle.std.proofs.lemmas.Bool.{cases_eq, true≢false}
use Rattle.std.proofs.lemmas.List.Sums.{sum_by-cons}
use Rattle.page_ids.specs.Chunks.{rising}
use Rattle.link_lists.specs.Grid.{times}
use Rattle.link_lists.proofs.Times.{times_at, times_past}

pub times-le_cons : (f g : ℕ) (xs : List ℕ) → times f xs ≤ times f (g ∷ xs)
times-le_cons f g xs = omega (arith, sum_by-cons (λ g. cond {A = ℕ} (g == f) 1 0) g xs)

pub times-rest : (f : ℕ) (xs : List ℕ) → times f (drop 1 xs) ≤ times f xs
times-rest f [] = omega arith
times-rest f (x ∷ xs) = times-le_cons f x xs

-- a frame that passes a test stands as often among those that pass
pub times-passing : (p : ℕ → Bool) (f : ℕ) (xs : List ℕ) → p f ≡ true → times f (filter p xs) ≡ times f xs
times-passing p f [] e = refl
times-passing p f (x ∷ xs) e = by_test (times-passing p f xs e) (p x) refl
  where
    by_test : times f (filter p xs) ≡ times f xs → (b : Bool) → p x ≡ b → times f (cond b (x ∷ filter p xs) (filter p xs)) ≡ times f (x ∷ xs)
    by_test next true t = omega (arith, next, sum_by-cons (λ g. cond {A = ℕ} (g == f) 1 0) x xs, sum_by-cons (λ g. cond {A = ℕ} (g == f) 1 0) x (filter p xs))
    by_test next false t = next ∙ sym (times_past f x xs (λ same. true≢false (sym e ∙ ap p (sym same) ∙ t)))

-- and one that fails it doesn't
pub times-failing : (p : ℕ → Bool) (f : ℕ) (xs : List ℕ) → p f ≡ false → times f (filter p xs) ≡ 0
times-failing p f [] e = refl
times-failing p f (x ∷ xs) e = by_test (times-failing p f xs e) (p x) refl
  where
    by_test : times f (filter p xs) ≡ 0 → (b : Bool) → p x ≡ b → times f (cond b (x ∷ filter p xs) (filter p xs)) ≡ 0
    by_test next true t = times_past f x (filter p xs) (λ same. true≢false (sym t ∙ ap p same ∙ e)) ∙ next
    by_test next false t = next

pub times-rising_below : (f from n : ℕ) → f < from → times f (rising from n) ≡ 0
times-rising_below f from zero less = refl
times-rising_below f from (suc n) less =
    times_past f from (rising (from + 1) n) (λ same. omega (arith, same, less)) ∙ times-rising_below f (from + 1) n (omega (arith, less))

pub times-rising_above : (f from n : ℕ) → from + n ≤ f → times f (rising from n) ≡ 0
times-rising_above f from zero past = refl
times-rising_above f from (suc n) past =
    times_past f from (rising (from + 1) n) (λ same. omega (arith, same, past)) ∙ times-rising_above f (from + 1) n (omega (arith, past))

pub times-rising_le : (f from n : ℕ) → times f (rising from n) ≤ 1
times-rising_le f from zero = omega arith
times-rising_le f from (suc n) = by_test (times-rising_le f (from + 1) n)
  where
    by_test : times f (rising (from + 1) n) ≤ 1 → times f (rising from (suc n)) ≤ 1
    by_test next = elim (cases_eq from f) [
      | inl same ↦
          let none = times-rising_below f (from + 1) n (omega (arith, same)) in
          let own = ap (λ g. times f (g ∷ rising (from + 1) n)) same ∙ times_at f (rising (from + 1) n) in
          omega (arith, none, own)
      | inr ne ↦ omega (arith, next, times_past f from (rising (from + 1) n) ne)
    ]
