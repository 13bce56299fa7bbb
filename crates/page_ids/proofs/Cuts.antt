-- A text that is cut at the first byte of a kind.
use Rattle.std.proofs.Common.{ℕ, List, [], ◌∷◌, ◌++◌, ◌≡◌, ◌+◌, ◌%◌, ◌^◌, ◌<◌, ◌≤◌, ◌∙◌, ◌⊎◌, Bool, true, false, Option, None, Some, nat_lt, take, drop, length, length-take, get_or, refl, ap, subst, arith}
use Rattle.std.specs.Prelude.{◌==◌}
use Rattle.std.specs.Fmt.{decimal}
use Rattle.std.specs.List.{All, AllByRecursion, position_or_len, before_first, after_first}
use Rattle.std.proofs.Math.Seq.{drop-append-add}
use Rattle.std.proofs.lemmas.List.{get_or-take}
use Rattle.std.proofs.lemmas.Grind.{common_steps}
use Rattle.std.proofs.lemmas.Option.{cond_some}
use Rattle.std.proofs.lemmas.Bool.{eq-eqb, ltb-true}
use Rattle.std.proofs.lemmas.Fmt.{decimal_by_steps}
use Rattle.std.proofs.lemmas.Bool.Decides.{nat_tests}
use Rattle.std.proofs.lemmas.List.Elements.{All-push, All-cons, All-nil, All-from_get_or, recursion_from_All}
use Rattle.std.proofs.lemmas.List.Sums.{split_at_first, passes_at_first, fails_before_first}
use Rattle.page_ids.specs.Numerals.{cut_at}

abbrev pub Lacks : ℕ → List ℕ → Type 0
Lacks c xs = All (λ x. (x == c) ≡ false) xs

pub decimal_lacks : (c n : ℕ) → (c < 48) ⊎ (57 < c) → n < 2 ^ 64 → Lacks c (decimal n)
decimal_lacks c n far fits = decimal_by_steps (λ k ds. Lacks c ds) one more n fits
  where
    digit : (d : ℕ) → d < 10 → ((48 + d) == c) ≡ false
    digit d small = grind (arith, nat_tests, far)

    one : (k : ℕ) → k < 10 → Lacks c ((48 + k) ∷ [])
    one k small = All-cons (λ x. (x == c) ≡ false) (48 + k) [] (digit k small) (All-nil (λ x. (x == c) ≡ false))

    more : (k : ℕ) (ds : List ℕ) → 10 ≤ k → Lacks c ds → Lacks c (ds ++ ((48 + k % 10) ∷ []))
    more k ds big h = All-push (λ x. (x == c) ≡ false) ds (48 + k % 10) h (digit (k % 10) (omega arith))

-- the first such byte is where it is known to be
place_here : (c : ℕ) (xs ys : List ℕ) → AllByRecursion (λ x. (x == c) ≡ false) xs → position_or_len (λ x. x == c) (xs ++ c ∷ ys) ≡ length xs
place_here c [] ys h = let same : (c == c) ≡ true = eq-eqb c c refl in rw same refl
place_here c (x ∷ xs) ys h = let next = place_here c xs ys h.1 in rw h.0 (omega (arith, next))

taken_here : (c : ℕ) (xs ys : List ℕ) → take (length xs) (xs ++ c ∷ ys) ≡ xs
taken_here c xs ys = grind (arith, common_steps)

left_here : (c : ℕ) (xs ys : List ℕ) → drop (length xs + 1) (xs ++ c ∷ ys) ≡ ys
left_here c xs ys = drop-append-add xs (c ∷ ys) 1

pub cut_here : (c : ℕ) (xs ys : List ℕ) → Lacks c xs → cut_at c (xs ++ c ∷ ys) ≡ Some (xs, ys)
cut_here c xs ys h =
    let at : position_or_len (λ x. x == c) (xs ++ c ∷ ys) ≡ length xs = place_here c xs ys (recursion_from_All (λ x. (x == c) ≡ false) xs h) in
    let within : nat_lt (length xs) (length (xs ++ c ∷ ys)) ≡ true = grind (arith, nat_tests, common_steps) in
    rw at (rw within (rw (taken_here c xs ys, left_here c xs ys) refl))

found : (c : ℕ) (bs xs ys : List ℕ) → cut_at c bs ≡ Some (xs, ys) → (position_or_len (λ x. x == c) bs < length bs) × (before_first (λ x. x == c) bs ≡ xs) × (after_first (λ x. x == c) bs ≡ ys)
found c bs xs ys e =
    let parts = cond_some (nat_lt (position_or_len (λ x. x == c) bs) (length bs)) (before_first (λ x. x == c) bs, after_first (λ x. x == c) bs) (xs, ys) e in
    (ltb-true _ _ parts.0, ap (λ (r : List ℕ × List ℕ). r.0) parts.1, ap (λ (r : List ℕ × List ℕ). r.1) parts.1)

pub cut_is : (c : ℕ) (bs xs ys : List ℕ) → cut_at c bs ≡ Some (xs, ys) → bs ≡ xs ++ c ∷ ys
cut_is c bs xs ys e =
    let f = found c bs xs ys e in
    let hit : get_or bs (position_or_len (λ x. x == c) bs) 0 ≡ c = let t = passes_at_first (λ x. x == c) bs 0 f.0 in grind (arith, nat_tests, t) in
    let whole = split_at_first (λ x. x == c) bs 0 f.0 in
    whole ∙ ap (λ d. before_first (λ x. x == c) bs ++ (d ∷ after_first (λ x. x == c) bs)) hit ∙ ap (λ a. a ++ (c ∷ after_first (λ x. x == c) bs)) f.1 ∙ ap (λ b. xs ++ (c ∷ b)) f.2

-- a text that isn't cut lacks the byte
pub uncut_lacks : (c : ℕ) (bs : List ℕ) → cut_at c bs ≡ None → Lacks c bs
uncut_lacks c bs e = past (nat_lt (position_or_len (λ x. x == c) bs) (length bs)) refl
  where
    past : (b : Bool) → nat_lt (position_or_len (λ x. x == c) bs) (length bs) ≡ b → Lacks c bs
    past true t = let bad : ◌≡◌ {A = Option (List ℕ × List ℕ)} (Some (before_first (λ x. x == c) bs, after_first (λ x. x == c) bs)) None = rw t at e in absurd (cc)
    past false t = let far : length bs ≤ position_or_len (λ x. x == c) bs = grind (arith, nat_tests) in
        All-from_get_or (λ x. (x == c) ≡ false) bs 0 (λ i below. fails_before_first (λ x. x == c) bs i 0 (omega arith))

-- what stands before the cut lacks the byte
pub cut_lacks : (c : ℕ) (bs xs ys : List ℕ) → cut_at c bs ≡ Some (xs, ys) → Lacks c xs
cut_lacks c bs xs ys e =
    let f = found c bs xs ys e in
    let p = λ (x : ℕ). x == c in
    let n = position_or_len p bs in
    let long = length-take n bs in
    subst (λ zs. Lacks c zs) f.1 (All-from_get_or (λ x. (x == c) ≡ false) (take n bs) 0 (λ i below.
    (let inside : i < n = omega (arith, below, long) in
    ap p (get_or-take n bs i 0 inside) ∙ fails_before_first p bs i 0 inside)))
