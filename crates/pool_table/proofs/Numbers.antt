-- No account stands twice.
use Rattle.std.proofs.Common.{◌≡◌, ◌≢◌, ℕ, suc, Bool, true, false, cond, ◌||◌, List, [], ◌∷◌, ◌++◌, refl, ap, ◌∙◌, arith, nat_eq}
use Rattle.std.proofs.lemmas.Bool.Decides.{nat_tests}
use mathlib.Core.Option.{some}
use lib.ListN.{get_elem?}
use Rattle.trail.specs.Book.{is_in}
use Rattle.trail_laws.specs.Ending.{AreDistinct}
use Rattle.pool_table.specs.declared.view.Account.{Account}
use Rattle.pool_table.specs.Views.{numbers_of}
use Rattle.pool_table.specs.Ending.{account_at}

not_same : (m n : ℕ) → m ≢ n → nat_eq m n ≡ false
not_same m n apart = grind (arith, nat_tests)

-- a number that no account has
pub none_has : (n : ℕ) (accounts : List Account) → ((i : ℕ) (a : Account) → get_elem? accounts i ≡ some a → a.number ≢ n) → is_in n (numbers_of accounts) ≡ false
none_has n [] each = refl
none_has n (a ∷ accounts) each = ap (λ (b : Bool). b || is_in n (numbers_of accounts)) (not_same a.number n (each 0 a refl)) ∙ none_has n accounts (λ i. each (suc i))

none_in : (n : ℕ) (xs ys : List Account) → is_in n (numbers_of xs) ≡ false → is_in n (numbers_of ys) ≡ false → is_in n (numbers_of (xs ++ ys)) ≡ false
none_in n [] ys first second = second
none_in n (a ∷ xs) ys first second = cases (nat_eq a.number n) first (none_in n xs ys)
  where
    cases : (b : Bool) → (b || is_in n (numbers_of xs)) ≡ false → (is_in n (numbers_of xs) ≡ false → is_in n (numbers_of ys) ≡ false → is_in n (numbers_of (xs ++ ys)) ≡ false)
        → (b || is_in n (numbers_of (xs ++ ys))) ≡ false
    cases true first rest = first
    cases false first rest = rest first second

-- two lists without a number in common
pub distinct_both : (xs ys : List Account) → AreDistinct (numbers_of xs) → AreDistinct (numbers_of ys) → ((i j : ℕ) (a b : Account) → get_elem? xs i ≡ some a → get_elem? ys j ≡ some b → b.number ≢ a.number)
    → AreDistinct (numbers_of (xs ++ ys))
distinct_both [] ys first second apart = second
distinct_both (a ∷ xs) ys first second apart =
    (none_in a.number xs ys first.0 (none_has a.number ys (λ j b at. apart 0 j a b refl at)), distinct_both xs ys first.1 second (λ i j. apart (suc i) j))

-- who has no account did nothing
pub others_none : (accounts : List Account) (c : ℕ) → is_in c (numbers_of accounts) ≡ false → account_at accounts c ≡ []
others_none [] c away = refl
others_none (a ∷ accounts) c away = cases (nat_eq a.number c) away (others_none accounts c)
  where
    cases : (b : Bool) → (b || is_in c (numbers_of accounts)) ≡ false → (is_in c (numbers_of accounts) ≡ false → account_at accounts c ≡ []) → cond b a.mine (account_at accounts c) ≡ []
    cases true away rest = absurd (true_not_false away)
      where
        true_not_false : true ≡ false → ⊥
        true_not_false e = absurd (cc)
    cases false away rest = rest away
