-- A number's word is its decimal spelling, both ways.
use Rattle.std.proofs.Common.{ℕ, List, [], ◌∷◌, ◌++◌, ◌≡◌, ◌≢◌, ◌+◌, ◌-◌, ◌*◌, ◌/◌, ◌%◌, ◌^◌, ◌<◌, ◌≤◌, ◌∙◌, ◌&&◌, Bool, true, false, None, Some, nat_le, nat_lt, nat_eq, get_or, length, refl, sym, ap, arith}
use Rattle.std.specs.Prelude.{◌==◌}
use Rattle.std.specs.Fmt.{decimal}
use Rattle.std.proofs.lemmas.Fmt.{decimal_by_steps, decimal_step, decimal_digit, first_decimal, decimal_nonempty}
use Rattle.std.proofs.lemmas.Bool.Decides.{nat_tests}
use Rattle.std.proofs.lemmas.List.{append_assoc, append-nil}
use Rattle.page_ids.specs.Numerals.{digits_after, number_of}

after_push : (l m n c : ℕ) (ds : List ℕ) → digits_after l m ds ≡ Some n → digits_after l m (ds ++ c ∷ []) ≡ digits_after l n (c ∷ [])
after_push l m n c [] e = let same : m ≡ n = cc in rw same refl
after_push l m n c (d ∷ ds) e = cases (λ k. after_push l (m * 10 + (d - 48)) n c ds k) (nat_le 48 d && nat_le d 57 && nat_lt (m * 10 + (d - 48)) l) refl
  where
    cases : (digits_after l (m * 10 + (d - 48)) ds ≡ Some n → digits_after l (m * 10 + (d - 48)) (ds ++ c ∷ []) ≡ digits_after l n (c ∷ []))
        → (b : Bool) → (nat_le 48 d && nat_le d 57 && nat_lt (m * 10 + (d - 48)) l) ≡ b → digits_after l m ((d ∷ ds) ++ c ∷ []) ≡ digits_after l n (c ∷ [])
    cases next true t = rw t (next (rw t at e))
    cases next false t = let bad : None ≡ Some n = rw t at e in absurd (cc)

last_digit : (l q d : ℕ) → d < 10 → q * 10 + d < l → digits_after l q ((48 + d) ∷ []) ≡ Some (q * 10 + d)
last_digit l q d small fits = grind (arith, nat_tests)

digits_read : (l n : ℕ) → n < 2 ^ 64 → n < l → digits_after l 0 (decimal n) ≡ Some n
digits_read l n word fits = decimal_by_steps (λ k ds. k < l → digits_after l 0 ds ≡ Some k) one more n word fits
  where
    one : (k : ℕ) → k < 10 → k < l → digits_after l 0 ((48 + k) ∷ []) ≡ Some k
    one k small below = let same : 0 * 10 + k ≡ k = omega arith in last_digit l 0 k small (omega arith) ∙ ap Some same

    more : (k : ℕ) (ds : List ℕ) → 10 ≤ k → (k / 10 < l → digits_after l 0 ds ≡ Some (k / 10)) → k < l → digits_after l 0 (ds ++ ((48 + k % 10) ∷ [])) ≡ Some k
    more k ds big front below = let back : k / 10 * 10 + k % 10 ≡ k = omega arith in
        after_push l 0 (k / 10) (48 + k % 10) ds (front (omega arith)) ∙ last_digit l (k / 10) (k % 10) (omega arith) (omega arith) ∙ ap Some back

-- the number's own spelling is read
pub number_of-decimal : (l n : ℕ) → n < 2 ^ 64 → n < l → number_of l (decimal n) ≡ Some n
number_of-decimal l n word fits = shape (decimal n) refl
  where
    shape : (w : List ℕ) → decimal n ≡ w → number_of l w ≡ Some n
    shape [] e = absurd (let some_bytes : 0 < length (decimal n) = decimal_nonempty n word in omega (arith, ap length e))
    shape (c ∷ []) e = ap (λ w. digits_after l 0 w) (sym e) ∙ digits_read l n word fits
    shape (c ∷ d ∷ cs) e = zeros (c == 48) refl
      where
        zeros : (b : Bool) → (c == 48) ≡ b → number_of l (c ∷ d ∷ cs) ≡ Some n
        zeros false t = rw t (ap (λ w. digits_after l 0 w) (sym e) ∙ digits_read l n word fits)
        zeros true t = absurd (big (nat_eq n 0) refl)
          where
            zero_first : c ≡ 48
            zero_first = grind (arith, nat_tests)

            big : (b : Bool) → nat_eq n 0 ≡ b → ⊥
            big true u = let none : n ≡ 0 = grind (arith, nat_tests) in
                let one : decimal n ≡ 48 ∷ [] = ap decimal none ∙ decimal_digit 0 (omega arith) in
                let two : c ∷ d ∷ cs ≡ 48 ∷ [] = sym e ∙ one in omega (arith, ap length two)
            big false u = let some : 0 < n = grind (arith, nat_tests) in
                let first : 48 < get_or (decimal n) 0 0 = first_decimal n some word in
                let here : get_or (decimal n) 0 0 ≡ c = ap (λ w. get_or w 0 0) e in omega (arith, first, here, zero_first)

digit_more : (m d : ℕ) → 0 < m → d < 10 → m * 10 + d < 2 ^ 64 → decimal (m * 10 + d) ≡ decimal m ++ ((48 + d) ∷ [])
digit_more m d some small fits =
    let high : (m * 10 + d) / 10 ≡ m = omega arith in
    let low : (m * 10 + d) % 10 ≡ d = omega arith in
    let step : decimal (m * 10 + d) ≡ decimal ((m * 10 + d) / 10) ++ ((48 + (m * 10 + d) % 10) ∷ []) = decimal_step (m * 10 + d) (omega arith) fits in
    step ∙ ap (λ h. decimal h ++ ((48 + (m * 10 + d) % 10) ∷ [])) high ∙ ap (λ k. decimal m ++ ((48 + k) ∷ [])) low

-- digits behind a number that isn't 0 spell on
spelled_after : (l m n : ℕ) (ds : List ℕ) → l ≤ 2 ^ 64 → 0 < m → m < l → digits_after l m ds ≡ Some n → (decimal n ≡ decimal m ++ ds) × (n < l)
spelled_after l m n [] top some below e = let same : m ≡ n = cc in (ap decimal (sym same) ∙ sym (append-nil (decimal m)), rw (← same) below)
spelled_after l m n (d ∷ ds) top some below e = cases (λ a b k. spelled_after l (m * 10 + (d - 48)) n ds top a b k) (nat_le 48 d && nat_le d 57 && nat_lt (m * 10 + (d - 48)) l) refl
  where
    cases : (0 < m * 10 + (d - 48) → m * 10 + (d - 48) < l → digits_after l (m * 10 + (d - 48)) ds ≡ Some n → (decimal n ≡ decimal (m * 10 + (d - 48)) ++ ds) × (n < l))
        → (b : Bool) → (nat_le 48 d && nat_le d 57 && nat_lt (m * 10 + (d - 48)) l) ≡ b → (decimal n ≡ decimal m ++ d ∷ ds) × (n < l)
    cases next false t = let bad : None ≡ Some n = rw t at e in absurd (cc)
    cases next true t =
        let low : 48 ≤ d = grind (arith, nat_tests) in
        let high : d ≤ 57 = grind (arith, nat_tests) in
        let fits : m * 10 + (d - 48) < l = grind (arith, nat_tests) in
        let rest = next (omega arith) fits (rw t at e) in
        let digit : 48 + (d - 48) ≡ d = omega arith in
        let grown : decimal (m * 10 + (d - 48)) ≡ decimal m ++ (d ∷ []) = digit_more m (d - 48) some (omega arith) (omega arith) ∙ ap (λ k. decimal m ++ (k ∷ [])) digit in
        (rest.0 ∙ ap (λ w. w ++ ds) grown ∙ append_assoc (decimal m) (d ∷ []) ds, rest.1)

one_digit : (l c n : ℕ) → digits_after l 0 (c ∷ []) ≡ Some n → (48 ≤ c) × (c ≤ 57) × (n ≡ c - 48) × (n < l)
one_digit l c n e = cases (nat_le 48 c && nat_le c 57 && nat_lt (0 * 10 + (c - 48)) l) refl
  where
    cases : (b : Bool) → (nat_le 48 c && nat_le c 57 && nat_lt (0 * 10 + (c - 48)) l) ≡ b → (48 ≤ c) × (c ≤ 57) × (n ≡ c - 48) × (n < l)
    cases false t = let bad : None ≡ Some n = rw t at e in absurd (cc)
    cases true t = let found : Some (0 * 10 + (c - 48)) ≡ Some n = rw t at e in let same : 0 * 10 + (c - 48) ≡ n = cc in
        (grind (arith, nat_tests), grind (arith, nat_tests), omega (arith, same), grind (arith, nat_tests, same))

-- a word that is read is its number's own spelling
pub number_is : (l n : ℕ) (w : List ℕ) → l ≤ 2 ^ 64 → number_of l w ≡ Some n → (w ≡ decimal n) × (n < l)
number_is l n [] top e = let bad : None ≡ Some n = e in absurd (cc)
number_is l n (c ∷ []) top e =
    let f = one_digit l c n e in
    let small : n < 10 = omega (arith, f.1, f.2) in
    let same : 48 + n ≡ c = omega (arith, f.0, f.2) in
    (ap (λ k. k ∷ []) (sym same) ∙ sym (decimal_digit n small), f.3)
number_is l n (c ∷ d ∷ cs) top e = zeros (c == 48) refl
  where
    zeros : (b : Bool) → (c == 48) ≡ b → (c ∷ d ∷ cs ≡ decimal n) × (n < l)
    zeros true t = let bad : None ≡ Some n = rw t at e in absurd (cc)
    zeros false t = cases (nat_le 48 c && nat_le c 57 && nat_lt (0 * 10 + (c - 48)) l) refl
      where
        all : digits_after l 0 (c ∷ d ∷ cs) ≡ Some n
        all = rw t at e

        cases : (b : Bool) → (nat_le 48 c && nat_le c 57 && nat_lt (0 * 10 + (c - 48)) l) ≡ b → (c ∷ d ∷ cs ≡ decimal n) × (n < l)
        cases false u = let bad : None ≡ Some n = rw u at all in absurd (cc)
        cases true u =
            let low : 48 ≤ c = grind (arith, nat_tests) in
            let high : c ≤ 57 = grind (arith, nat_tests) in
            let fits : 0 * 10 + (c - 48) < l = grind (arith, nat_tests) in
            let other : c ≢ 48 = grind (arith, nat_tests) in
            let rest = spelled_after l (0 * 10 + (c - 48)) n (d ∷ cs) top (omega (arith, other)) fits (rw u at all) in
            let lone : decimal (0 * 10 + (c - 48)) ≡ (48 + (0 * 10 + (c - 48))) ∷ [] = decimal_digit (0 * 10 + (c - 48)) (omega arith) in
            let same : 48 + (0 * 10 + (c - 48)) ≡ c = omega arith in
            (sym (rest.0 ∙ ap (λ w. w ++ d ∷ cs) (lone ∙ ap (λ k. k ∷ []) same)), rest.1)
