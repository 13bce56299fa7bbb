-- Where a node stands in a list, and how often.
use Rattle.std.proofs.Common.{◌≡◌, ◌≢◌, ◌+◌, ◌≤◌, ◌==◌, ℕ, cond, List, [], ◌∷◌, ◌++◌, inl, inr, drop, Option, Some, None, refl, ap, arith}
use Rattle.std.proofs.lemmas.List.Sums.{sum_by-cons, sum_by-append}
use Rattle.std.proofs.lemmas.Bool.{cases_eq, cases_lt, ne_eqb, eq-eqb}
use Rattle.link_lists.specs.Grid.{times}
use Rattle.link_lists.specs.Chains.{first, last_or, IsApart}

pub times-cons : (x y : ℕ) (ys : List ℕ) → times x (y ∷ ys) ≡ cond (y == x) 1 0 + times x ys
times-cons x y ys = sum_by-cons (λ y. cond (y == x) 1 0) y ys

pub times-append : (x : ℕ) (xs ys : List ℕ) → times x (xs ++ ys) ≡ times x xs + times x ys
times-append x xs ys = sum_by-append (λ y. cond (y == x) 1 0) xs ys

pub times_at : (x : ℕ) (xs : List ℕ) → times x (x ∷ xs) ≡ 1 + times x xs
times_at x xs = omega (arith, times-cons x x xs, ap {B = ℕ} (λ b. cond b 1 0) (eq-eqb x x refl))

pub times_past : (x y : ℕ) (xs : List ℕ) → y ≢ x → times x (y ∷ xs) ≡ times x xs
times_past x y xs ne = omega (arith, times-cons x y xs, ap {B = ℕ} (λ b. cond b 1 0) (ne_eqb y x ne))

-- who stands in a list has a place in it
pub placed : (x : ℕ) (xs : List ℕ) → 1 ≤ times x xs → (front back : List ℕ) × (xs ≡ front ++ x ∷ back)
placed x [] h = absurd (omega arith)
placed x (y ∷ ys) h = elim (cases_eq y x) [
  | inl e ↦ ([], ys, ap (λ i. i ∷ ys) e)
  | inr ne ↦ behind (placed x ys (omega (arith, h, times_past x y ys ne)))
]
  where
    behind : (front back : List ℕ) × (ys ≡ front ++ x ∷ back) → (front back : List ℕ) × (y ∷ ys ≡ front ++ x ∷ back)
    behind t = (y ∷ t.0, t.1, ap (λ zs. y ∷ zs) t.2)

-- where a node stands once in all, it stands in neither part beside its place
pub none_before : (x : ℕ) (front back : List ℕ) → times x (front ++ x ∷ back) ≤ 1 → times x front ≡ 0
none_before x front back once = omega (arith, once, times-append x front (x ∷ back), times_at x back)

pub none_behind : (x : ℕ) (front back : List ℕ) → times x (front ++ x ∷ back) ≤ 1 → times x back ≡ 0
none_behind x front back once = omega (arith, once, times-append x front (x ∷ back), times_at x back)

-- the first node stands before the others
pub first_is : (xs : List ℕ) (x : ℕ) → first xs ≡ Some x → xs ≡ x ∷ drop 1 xs
first_is [] x e = absurd (cc)
first_is (y ∷ ys) x e = let same : y ≡ x = cc in ap (λ z. z ∷ ys) same

-- the last node stands behind the others
last_placed : (p : Option ℕ) (x : ℕ) (xs : List ℕ) (n : ℕ) → last_or p (x ∷ xs) ≡ Some n → (front : List ℕ) × (x ∷ xs ≡ front ++ n ∷ [])
last_placed p x [] n e = let same : x ≡ n = cc in ([], ap (λ i. i ∷ []) same)
last_placed p x (y ∷ ys) n e = behind (last_placed (Some x) y ys n e)
  where
    behind : (front : List ℕ) × (y ∷ ys ≡ front ++ n ∷ []) → (front : List ℕ) × (x ∷ y ∷ ys ≡ front ++ n ∷ [])
    behind t = (x ∷ t.0, ap (λ zs. x ∷ zs) t.1)

pub last_there : (xs : List ℕ) (n : ℕ) → last_or None xs ≡ Some n → (front : List ℕ) × (xs ≡ front ++ n ∷ [])
last_there [] n e = absurd (cc)
last_there (x ∷ xs) n e = last_placed None x xs n e

pub last_stands : (xs : List ℕ) (n : ℕ) → last_or None xs ≡ Some n → 1 ≤ times n xs
last_stands xs n e = stands (last_there xs n e)
  where
    stands : (front : List ℕ) × (xs ≡ front ++ n ∷ []) → 1 ≤ times n xs
    stands t = omega (arith, ap (times n) t.1, times-append n t.0 (n ∷ []), times_at n [])

-- lists that share no node
pub apart_sym : (xs ys : List ℕ) → IsApart xs ys → IsApart ys xs
apart_sym xs ys h = λ x there. elim (cases_lt 0 (times x xs)) [
  | inl l ↦ absurd (omega (arith, h x (omega (arith, l)), there))
  | inr g ↦ omega (arith, g)
]

pub apart_more : (node : ℕ) (xs ys : List ℕ) → times node ys ≡ 0 → IsApart xs ys → IsApart ys (node ∷ xs)
apart_more node xs ys none h = λ x there. elim (cases_eq node x) [
  | inl same ↦ absurd (omega (arith, none, there, ap (λ i. times i ys) same))
  | inr ne ↦ omega (arith, times_past x node xs ne, apart_sym xs ys h x there)
]
