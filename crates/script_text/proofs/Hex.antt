-- The word of bytes is two digits for each, both ways.
use Rattle.std.proofs.Common.{ℕ, List, [], ◌∷◌, ◌++◌, ◌≡◌, ◌+◌, ◌-◌, ◌*◌, ◌/◌, ◌%◌, ◌<◌, ◌≤◌, ◌∙◌, ◌&&◌, Bool, true, false, Option, None, Some, nat_le, length, get_or, take, drop, refl, sym, ap, subst, arith}
use Rattle.std.specs.Fmt.{digit_glyph}
use Rattle.std.specs.Option.{option_and_then}
use Rattle.std.proofs.lemmas.Bool.Decides.{nat_tests}
use Rattle.std.proofs.lemmas.List.{append_assoc, take_all}
use Rattle.std.proofs.lemmas.Option.{option_and_then_some}
use Rattle.page_ids.specs.Spelling.{hex}
use Rattle.page_ids.specs.Typed.{AreBytes}
use Rattle.script_text.specs.Reading.{hex_digit, byte_of, hex_of}

glyph_read : (d : ℕ) → d < 16 → hex_digit (digit_glyph false d) ≡ Some d
glyph_read d small = grind (arith, nat_tests)

glyph_is : (c d : ℕ) → hex_digit c ≡ Some d → (c ≡ digit_glyph false d) × (d < 16)
glyph_is c d e = first (nat_le 48 c && nat_le c 57) refl
  where
    first : (b : Bool) → (nat_le 48 c && nat_le c 57) ≡ b → (c ≡ digit_glyph false d) × (d < 16)
    first true t = let told : Some (c - 48) ≡ Some d = rw t at e in let same : c - 48 ≡ d = cc in (grind (arith, nat_tests), grind (arith, nat_tests))
    first false t = second (nat_le 97 c && nat_le c 102) refl
      where
        second : (b : Bool) → (nat_le 97 c && nat_le c 102) ≡ b → (c ≡ digit_glyph false d) × (d < 16)
        second true u = let told : Some (c - 97 + 10) ≡ Some d = rw u at (rw t at e) in let same : c - 97 + 10 ≡ d = cc in (grind (arith, nat_tests), grind (arith, nat_tests))
        second false u = let told : ◌≡◌ {A = Option ℕ} None (Some d) = rw u at (rw t at e) in absurd (cc)

byte_read : (k : ℕ) → k < 256 → byte_of (digit_glyph false (k / 16)) (digit_glyph false (k % 16)) ≡ Some k
byte_read k small = let whole : k / 16 * 16 + k % 16 ≡ k = omega arith in
    rw (glyph_read (k / 16) (omega (arith, small))) (rw (glyph_read (k % 16) (omega arith)) (ap Some whole))

byte_is : (a b k : ℕ) → byte_of a b ≡ Some k → (a ≡ digit_glyph false (k / 16)) × (b ≡ digit_glyph false (k % 16)) × (k < 256)
byte_is a b k e = option_and_then_some _ (hex_digit a) k e (λ x xe e1. option_and_then_some _ (hex_digit b) k e1 (λ y ye e2.
    let high = glyph_is a x xe in
    let low = glyph_is b y ye in
    let same : x * 16 + y ≡ k = cc in
    let upper : x ≡ k / 16 = omega (arith, low.1, same) in
    let lower : y ≡ k % 16 = omega (arith, low.1, same) in
    (high.0 ∙ ap (digit_glyph false) upper, low.0 ∙ ap (digit_glyph false) lower, omega (arith, high.1, low.1, same))))

-- the bytes' own spelling is read
pub hex_read : (bytes : List ℕ) → AreBytes bytes → hex_of (hex bytes) ≡ Some bytes
hex_read [] h = refl
hex_read (b ∷ bytes) h = rw (byte_read b h.0) (rw (hex_read bytes h.1) refl)

-- a word that is read is its bytes' own spelling
pub hex_is : (w bytes : List ℕ) → hex_of w ≡ Some bytes → (w ≡ hex bytes) × AreBytes bytes
hex_is [] bytes e = let same : ◌≡◌ {A = List ℕ} [] bytes = cc in subst (λ (q : List ℕ). (◌≡◌ {A = List ℕ} [] (hex q)) × AreBytes q) same (refl, tt)
hex_is (a ∷ []) bytes e = let bad : ◌≡◌ {A = Option (List ℕ)} None (Some bytes) = e in absurd (cc)
hex_is (a ∷ b ∷ cs) bytes e = more (λ r re. hex_is cs r re)
  where
    more : ((r : List ℕ) → hex_of cs ≡ Some r → (cs ≡ hex r) × AreBytes r) → (a ∷ b ∷ cs ≡ hex bytes) × AreBytes bytes
    more next = option_and_then_some _ (byte_of a b) bytes e (λ k ke e1. option_and_then_some _ (hex_of cs) bytes e1 (λ r re e2.
        let here = byte_is a b k ke in
        let rest = next r re in
        let same : k ∷ r ≡ bytes = cc in
        let word : a ∷ b ∷ cs ≡ hex (k ∷ r) = simp (here.0, here.1, rest.0) in
        subst (λ (q : List ℕ). (a ∷ b ∷ cs ≡ hex q) × AreBytes q) same (word, (here.2, rest.1))))

-- what is read so far, followed by what the rest of the word writes
abbrev pub After : List ℕ → List ℕ → Option (List ℕ)
After out rest = option_and_then (λ (more : List ℕ). Some (out ++ more)) (hex_of rest)

joined : (out : List ℕ) (k : ℕ) (o : Option (List ℕ)) → option_and_then (λ (more : List ℕ). Some (out ++ more)) (option_and_then (λ (r : List ℕ). Some (k ∷ r)) o) ≡ option_and_then (λ (more : List ℕ). Some ((out ++ k ∷ []) ++ more)) o
joined out k None = refl
joined out k (Some r) = ap Some (sym (append_assoc out (k ∷ []) r))

pub hex_step : (out new rest : List ℕ) (k : ℕ) (o : Option (List ℕ)) → 2 ≤ length rest → Some k ≡ byte_of (get_or rest 0 0) (get_or rest 1 0) → new ≡ out ++ k ∷ [] → After out rest ≡ o
    → After new (take (length rest - 2) (drop 2 rest)) ≡ o
hex_step out new [] k o long here grown told = absurd (omega (arith, long))
hex_step out new (a ∷ []) k o long here grown told = absurd (omega (arith, long))
hex_step out new (a ∷ b ∷ cs) k o long here grown told =
    let count : length (a ∷ b ∷ cs) - 2 ≡ length cs = omega arith in
    let all : take (length (a ∷ b ∷ cs) - 2) cs ≡ cs = ap (λ n. take n cs) count ∙ take_all (length cs) cs (omega arith) in
    let before : After out (a ∷ b ∷ cs) ≡ option_and_then (λ (more : List ℕ). Some (out ++ more)) (option_and_then (λ (r : List ℕ). Some (k ∷ r)) (hex_of cs)) = rw (← here) refl in
    ap (λ w. After new w) all ∙ ap (λ n. After n cs) grown ∙ sym (joined out k (hex_of cs)) ∙ sym before ∙ told
