-- Lists of views, of which one or two changed.
use Rattle.std.proofs.Common.{◌≡◌, ◌≢◌, ◌⊎◌, ℕ, zero, suc, ◌+◌, ◌≤◌, List, [], ◌∷◌, ◌++◌, length, set, refl, sym, ap, subst, inl, inr, ⊎_elim, arith}
use mathlib.Core.Option.{some, some-injective, some-ne-none}
use lib.ListN.{get_elem?}
use Rattle.atomic_table.proofs.Lists.{at_set}
use Rattle.redo_log.specs.declared.view.View.{View}
use Rattle.redo_log.specs.Marks.{total}

module _ {A : Type 0} where
  -- what holds of the others and of the new one holds of all
  pub each_set : (K : ℕ → A → Type 0) (l : List A) (i : ℕ) (b : A) → K i b → ((j : ℕ) (u : A) → j ≢ i → get_elem? l j ≡ some u → K j u)
      → (j : ℕ) (u : A) → get_elem? (set l i b) j ≡ some u → K j u
  each_set K l i b mine others j u e = ⊎_elim (λ (t : (j ≡ i) × (b ≡ u)). subst (λ (x : ℕ × A). K x.0 x.1) (λ k. (sym t.0 k, t.1 k)) mine)
      (λ (t : (j ≢ i) × (get_elem? l j ≡ some u)). others j u t.0 t.1) (at_set l i j b u e)

  at_end : (l : List A) (a b : A) (j : ℕ) → get_elem? (l ++ a ∷ []) j ≡ some b → (get_elem? l j ≡ some b) ⊎ ((j ≡ length l) × (a ≡ b))
  at_end [] a b zero e = inr (refl, some-injective a b e)
  at_end [] a b (suc j) e = absurd (some-ne-none b (sym e))
  at_end (x ∷ xs) a b zero e = inl e
  at_end (x ∷ xs) a b (suc j) e = ⊎_elim (λ (h : get_elem? xs j ≡ some b). inl h) (λ (h : (j ≡ length xs) × (a ≡ b)). inr (ap suc h.0, h.1)) (at_end xs a b j e)

  -- one becomes b, and c is new
  pub each_new : (K : ℕ → A → Type 0) (l : List A) (i : ℕ) (b c : A) → K i b → K (length (set l i b)) c → ((j : ℕ) (u : A) → j ≢ i → get_elem? l j ≡ some u → K j u)
      → (j : ℕ) (u : A) → get_elem? (set l i b ++ c ∷ []) j ≡ some u → K j u
  each_new K l i b c mine last others j u e = ⊎_elim (λ (was : get_elem? (set l i b) j ≡ some u). each_set K l i b mine others j u was)
      (λ (t : (j ≡ length (set l i b)) × (c ≡ u)). subst (λ (x : ℕ × A). K x.0 x.1) (λ k. (sym t.0 k, t.1 k)) last) (at_end (set l i b) c u j e)

  -- one becomes b, and then another c
  pub each_two : (K : ℕ → A → Type 0) (l : List A) (i o : ℕ) (b c : A) → K i b → K o c → ((j : ℕ) (u : A) → j ≢ i → j ≢ o → get_elem? l j ≡ some u → K j u)
      → (j : ℕ) (u : A) → get_elem? (set (set l i b) o c) j ≡ some u → K j u
  each_two K l i o b c mine other others j u e = each_set K (set l i b) o c other
      (λ (k : ℕ) (y : A) (n : k ≢ o) (e' : get_elem? (set l i b) k ≡ some y). each_set (λ (m : ℕ) (z : A). m ≢ o → K m z) l i b (λ _. mine) (λ (m : ℕ) (z : A) (p : m ≢ i) (q : get_elem? l m ≡ some z) (r : m ≢ o). others m z p r q) k y e' n) j u e

module _ (f : View → ℕ) where
  -- what views have together, where one is another
  pub total_set : (l : List View) (i : ℕ) (a b : View) → get_elem? l i ≡ some a → total f (set l i b) + f a ≡ total f l + f b
  total_set [] i a b e = absurd (some-ne-none a (sym e))
  total_set (x ∷ xs) zero a b e = let same = ap f (some-injective x a e) in omega (arith, same)
  total_set (x ∷ xs) (suc i) a b e = let rest = total_set xs i a b e in omega (arith, rest)

  -- and where one is new
  pub total_new : (l : List View) (b : View) → total f (l ++ b ∷ []) ≡ total f l + f b
  total_new [] b = omega arith
  total_new (x ∷ xs) b = let rest = total_new xs b in omega (arith, rest)

  pub part_le : (l : List View) (i : ℕ) (a : View) → get_elem? l i ≡ some a → f a ≤ total f l
  part_le [] i a e = absurd (some-ne-none a (sym e))
  part_le (x ∷ xs) zero a e = let same = ap f (some-injective x a e) in omega (arith, same)
  part_le (x ∷ xs) (suc i) a e = let rest = part_le xs i a e in omega (arith, rest)

module _ (f h : View → ℕ) where
  none_else : (l : List View) → ((j : ℕ) (u : View) → get_elem? l j ≡ some u → f u ≡ 0 → h u ≡ 0) → total f l ≡ 0 → total h l ≡ 0
  none_else [] each none = refl
  none_else (x ∷ xs) each none =
      let here = each 0 x refl (omega (arith, none)) in
      let rest = none_else xs (λ j. each (suc j)) (omega (arith, none)) in omega (arith, here, rest)

  -- who has all of one thing has all of the other, where nobody has the other without the one
  pub has_all : (l : List View) (i : ℕ) (a : View) → get_elem? l i ≡ some a → ((j : ℕ) (u : View) → get_elem? l j ≡ some u → f u ≡ 0 → h u ≡ 0) → total f l ≡ f a
      → total h l ≡ h a
  has_all [] i a e each whole = absurd (some-ne-none a (sym e))
  has_all (x ∷ xs) zero a e each whole =
      let same = some-injective x a e in let one = ap f same in let other = ap h same in
      let rest = none_else xs (λ j. each (suc j)) (omega (arith, whole, one)) in omega (arith, rest, other)
  has_all (x ∷ xs) (suc i) a e each whole =
      let le = part_le f xs i a e in
      let here = each 0 x refl (omega (arith, whole, le)) in
      let rest = has_all xs i a e (λ j. each (suc j)) (omega (arith, whole, le)) in omega (arith, here, rest)
