-- Lists of views, of which one or two changed.
use Rattle.std.proofs.Common.{◌≡◌, ◌≢◌, ◌⊎◌, ℕ, zero, suc, ◌+◌, ◌≤◌, List, [], ◌∷◌, ◌++◌, length, set, refl, sym, ap, subst, inl, inr, ⊎_elim, arith}
use mathlib.Core.Option.{some, some-injective, some-ne-none}
use lib.ListN.{get_elem?}
use Rattle.atomic_table.proofs.Lists.{at_set}
use Rattle.pool_table.specs.declared.view.View.{View}
use Rattle.pool_table.specs.Kept.{total}

module _ {A : Type 0} where
  -- what has the index i is set
  pub set_at : (l : List A) (i : ℕ) (a b : A) → get_elem? l i ≡ some a → get_elem? (set l i b) i ≡ some b
  set_at [] i a b e = absurd (some-ne-none a (sym e))
  set_at (x ∷ xs) zero a b e = refl
  set_at (x ∷ xs) (suc i) a b e = set_at xs i a b e

  pub at_end : (l : List A) (a b : A) (j : ℕ) → get_elem? (l ++ a ∷ []) j ≡ some b → (get_elem? l j ≡ some b) ⊎ ((j ≡ length l) × (a ≡ b))
  at_end [] a b zero e = inr (refl, some-injective a b e)
  at_end [] a b (suc j) e = absurd (some-ne-none b (sym e))
  at_end (x ∷ xs) a b zero e = inl e
  at_end (x ∷ xs) a b (suc j) e = ⊎_elim (λ (t : get_elem? xs j ≡ some b). inl t) (λ (t : (j ≡ length xs) × (a ≡ b)). inr (ap suc t.0, t.1)) (at_end xs a b j e)

  -- what is in two lists, one after the other, is in one of them
  pub at_append : (l m : List A) (b : A) (j : ℕ) → get_elem? (l ++ m) j ≡ some b → (get_elem? l j ≡ some b) ⊎ ((k : ℕ) × (get_elem? m k ≡ some b))
  at_append [] m b j e = inr (j, e)
  at_append (x ∷ xs) m b zero e = inl e
  at_append (x ∷ xs) m b (suc j) e = at_append xs m b j e

  pub in_first : (l m : List A) (b : A) (j : ℕ) → get_elem? l j ≡ some b → get_elem? (l ++ m) j ≡ some b
  in_first [] m b j e = absurd (some-ne-none b (sym e))
  in_first (x ∷ xs) m b zero e = e
  in_first (x ∷ xs) m b (suc j) e = in_first xs m b j e

  pub in_second : (l m : List A) (b : A) (k : ℕ) → get_elem? m k ≡ some b → (j : ℕ) × (get_elem? (l ++ m) j ≡ some b)
  in_second [] m b k e = (k, e)
  in_second (x ∷ xs) m b k e = let more = in_second xs m b k e in (suc more.0, more.1)

  -- what holds of the others and of the new one holds of all
  pub each_set : (K : ℕ → A → Type 0) (l : List A) (i : ℕ) (b : A) → K i b → ((j : ℕ) (u : A) → j ≢ i → get_elem? l j ≡ some u → K j u)
      → (j : ℕ) (u : A) → get_elem? (set l i b) j ≡ some u → K j u
  each_set K l i b mine others j u e = ⊎_elim (λ (t : (j ≡ i) × (b ≡ u)). subst (λ (x : ℕ × A). K x.0 x.1) (λ k. (sym t.0 k, t.1 k)) mine)
      (λ (t : (j ≢ i) × (get_elem? l j ≡ some u)). others j u t.0 t.1) (at_set l i j b u e)

  -- one becomes b, and c is new
  pub each_new : (K : ℕ → A → Type 0) (l : List A) (i : ℕ) (b c : A) → K i b → K (length (set l i b)) c → ((j : ℕ) (u : A) → j ≢ i → get_elem? l j ≡ some u → K j u)
      → (j : ℕ) (u : A) → get_elem? (set l i b ++ c ∷ []) j ≡ some u → K j u
  each_new K l i b c mine last others j u e = ⊎_elim (λ (was : get_elem? (set l i b) j ≡ some u). each_set K l i b mine others j u was)
      (λ (t : (j ≡ length (set l i b)) × (c ≡ u)). subst (λ (x : ℕ × A). K x.0 x.1) (λ k. (sym t.0 k, t.1 k)) last) (at_end (set l i b) c u j e)

  -- one becomes b, and then another c
  pub each_two : (K : ℕ → A → Type 0) (l : List A) (i o : ℕ) (b c : A) → K i b → K o c → ((j : ℕ) (u : A) → j ≢ i → j ≢ o → get_elem? l j ≡ some u → K j u)
      → (j : ℕ) (u : A) → get_elem? (set (set l i b) o c) j ≡ some u → K j u
  each_two K l i o b c mine other others j u e = each_set K (set l i b) o c other
      (λ (k : ℕ) (y : A) (n : k ≢ o) (e' : get_elem? (set l i b) k ≡ some y). each_set (λ (m : ℕ) (z : A). m ≢ o → K m z) l i b (λ _. mine) (λ (m : ℕ) (z : A) (p : m ≢ i) (q : get_elem? l m ≡ some z) (r : m ≢ o). others m z p r q) k y e' n) j u e

module _ (f : View → ℕ) where
  -- what views have together, where one is another
  pub total_set : (l : List View) (i : ℕ) (a b : View) → get_elem? l i ≡ some a → total f (set l i b) + f a ≡ total f l + f b
  total_set [] i a b e = absurd (some-ne-none a (sym e))
  total_set (x ∷ xs) zero a b e = let same = ap f (some-injective x a e) in omega (arith, same)
  total_set (x ∷ xs) (suc i) a b e = let rest = total_set xs i a b e in omega (arith, rest)

  pub total_same : (l : List View) (i : ℕ) (a b : View) → get_elem? l i ≡ some a → f b ≡ f a → total f (set l i b) ≡ total f l
  total_same l i a b e same = let t = total_set l i a b e in omega (arith, t, same)

  -- and where one is new
  pub total_new : (l : List View) (b : View) → total f (l ++ b ∷ []) ≡ total f l + f b
  total_new [] b = omega arith
  total_new (x ∷ xs) b = let rest = total_new xs b in omega (arith, rest)

  pub total_one : (l : List View) (i : ℕ) (a : View) → get_elem? l i ≡ some a → f a ≤ total f l
  total_one [] i a e = absurd (some-ne-none a (sym e))
  total_one (x ∷ xs) zero a e = let same = ap f (some-injective x a e) in omega (arith, same)
  total_one (x ∷ xs) (suc i) a e = let rest = total_one xs i a e in omega (arith, rest)

  pub total_two : (l : List View) (i j : ℕ) (a b : View) → i ≢ j → get_elem? l i ≡ some a → get_elem? l j ≡ some b → f a + f b ≤ total f l
  total_two [] i j a b n e d = absurd (some-ne-none a (sym e))
  total_two (x ∷ xs) zero zero a b n e d = absurd (n refl)
  total_two (x ∷ xs) zero (suc j) a b n e d = let same = ap f (some-injective x a e) in let more = total_one xs j b d in omega (arith, same, more)
  total_two (x ∷ xs) (suc i) zero a b n e d = let same = ap f (some-injective x b d) in let more = total_one xs i a e in omega (arith, same, more)
  total_two (x ∷ xs) (suc i) (suc j) a b n e d = let more = total_two xs i j a b (λ h. n (ap suc h)) e d in omega (arith, more)

  pub total_none : (l : List View) → ((j : ℕ) (u : View) → get_elem? l j ≡ some u → f u ≡ 0) → total f l ≡ 0
  total_none [] each = refl
  total_none (x ∷ xs) each = let here = each 0 x refl in let rest = total_none xs (λ j. each (suc j)) in omega (arith, here, rest)

  -- where the others have none, one has all
  pub total_alone : (l : List View) (i : ℕ) (a : View) → get_elem? l i ≡ some a → ((j : ℕ) (u : View) → j ≢ i → get_elem? l j ≡ some u → f u ≡ 0) → total f l ≡ f a
  total_alone [] i a e each = absurd (some-ne-none a (sym e))
  total_alone (x ∷ xs) zero a e each = let same = ap f (some-injective x a e) in let rest = total_none xs (λ j u. each (suc j) u (λ h. off j h)) in omega (arith, same, rest)
    where
      off : (j : ℕ) → suc j ≡ 0 → ⊥
      off j h = absurd (omega (arith, h))
  total_alone (x ∷ xs) (suc i) a e each = let here = each 0 x (λ h. off h) refl in let rest = total_alone xs i a e (λ j u n. each (suc j) u (λ h. n (down j h))) in omega (arith, here, rest)
    where
      off : 0 ≡ suc i → ⊥
      off h = absurd (omega (arith, h))

      down : (j : ℕ) → suc j ≡ suc i → j ≡ i
      down j h = omega (arith, h)
