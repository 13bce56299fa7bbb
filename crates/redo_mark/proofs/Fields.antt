-- Numbers that stand in bytes.
use Rattle.std.proofs.Common.{◌≡◌, ◌≤◌, ◌<◌, ◌+◌, ◌++◌, ℕ, zero, suc, List, [], ◌∷◌, length, drop, get_or, refl, ap, sym, ◌∙◌, arith, slice_index}
use Rattle.std.specs.Int.{w16, w32, w64, to_be_bytes, from_be_bytes}
use Rattle.std.proofs.lemmas.List.{drop_more, get_or-drop}
use Rattle.std.proofs.lemmas.Nat.{be_bytes_2, be_bytes_4, be_bytes_8}
use Rattle.page_ids.specs.Layout.{u32_at, u64_at}
use Rattle.redo_mark.specs.Reading.{u16_at}

-- each number is a byte, and so is what is read behind the end
abbrev pub AreBytes : List ℕ → Type 0
AreBytes bytes = (i : ℕ) → get_or bytes i 0 < 256

abbrev AllSmall : List ℕ → Type 0
AllSmall [] = Unit {0}
AllSmall (x ∷ xs) = (x < 256) × AllSmall xs

each : (xs : List ℕ) → AllSmall xs → AreBytes xs
each [] all i = omega arith
each (x ∷ xs) all zero = all.0
each (x ∷ xs) all (suc i) = each xs all.1 i

one_on : (bytes : List ℕ) (i j : ℕ) → i < length bytes → i + 1 ≡ j → drop i bytes ≡ slice_index bytes i ∷ drop j bytes
one_on bytes i j inside next = drop_more bytes i 0 inside ∙ ap (λ k. slice_index bytes i ∷ drop k bytes) next

-- a field's bytes are those of its number
pub field_2 : (bytes : List ℕ) (at : ℕ) → AreBytes bytes → at + 2 ≤ length bytes → drop at bytes ≡ to_be_bytes w16 (u16_at bytes at) ++ drop (at + 2) bytes
field_2 bytes at small long =
    let piece : List ℕ = slice_index bytes at ∷ slice_index bytes (at + 1) ∷ [] in
    let there : drop at bytes ≡ piece ++ drop (at + 2) bytes =
    one_on bytes at (at + 1) (omega (arith, long)) refl
    ∙ ap (λ l. slice_index bytes at ∷ l) (one_on bytes (at + 1) (at + 2) (omega (arith, long)) (omega arith)) in
    there ∙ ap (λ l. l ++ drop (at + 2) bytes) (sym (be_bytes_2 piece (u16_at bytes at) refl (each piece (small at, (small (at + 1), tt))) refl))

four_on : (bytes : List ℕ) (at : ℕ) → at + 4 ≤ length bytes
    → drop at bytes ≡ slice_index bytes at ∷ slice_index bytes (at + 1) ∷ slice_index bytes (at + 2) ∷ slice_index bytes (at + 3) ∷ drop (at + 4) bytes
four_on bytes at long =
    one_on bytes at (at + 1) (omega (arith, long)) refl
    ∙ ap (λ l. slice_index bytes at ∷ l) (one_on bytes (at + 1) (at + 2) (omega (arith, long)) (omega arith))
    ∙ ap (λ l. slice_index bytes at ∷ slice_index bytes (at + 1) ∷ l) (one_on bytes (at + 2) (at + 3) (omega (arith, long)) (omega arith))
    ∙ ap (λ l. slice_index bytes at ∷ slice_index bytes (at + 1) ∷ slice_index bytes (at + 2) ∷ l) (one_on bytes (at + 3) (at + 4) (omega (arith, long)) (omega arith))

pub field_4 : (bytes : List ℕ) (at : ℕ) → AreBytes bytes → at + 4 ≤ length bytes → drop at bytes ≡ to_be_bytes w32 (u32_at bytes at) ++ drop (at + 4) bytes
field_4 bytes at small long =
    let piece : List ℕ = slice_index bytes at ∷ slice_index bytes (at + 1) ∷ slice_index bytes (at + 2) ∷ slice_index bytes (at + 3) ∷ [] in
    four_on bytes at long ∙ ap (λ l. l ++ drop (at + 4) bytes) (sym (be_bytes_4 piece (u32_at bytes at) refl
    (each piece (small at, (small (at + 1), (small (at + 2), (small (at + 3), tt))))) refl))

eight_on : (bytes : List ℕ) (at : ℕ) → at + 8 ≤ length bytes
    → drop at bytes ≡ slice_index bytes at ∷ slice_index bytes (at + 1) ∷ slice_index bytes (at + 2) ∷ slice_index bytes (at + 3)
    ∷ slice_index bytes (at + 4) ∷ slice_index bytes (at + 5) ∷ slice_index bytes (at + 6) ∷ slice_index bytes (at + 7) ∷ drop (at + 8) bytes
eight_on bytes at long =
    four_on bytes at (omega (arith, long))
    ∙ ap (λ l. slice_index bytes at ∷ slice_index bytes (at + 1) ∷ slice_index bytes (at + 2) ∷ slice_index bytes (at + 3) ∷ l)
    (one_on bytes (at + 4) (at + 5) (omega (arith, long)) (omega arith)
    ∙ ap (λ l. slice_index bytes (at + 4) ∷ l) (one_on bytes (at + 5) (at + 6) (omega (arith, long)) (omega arith))
    ∙ ap (λ l. slice_index bytes (at + 4) ∷ slice_index bytes (at + 5) ∷ l) (one_on bytes (at + 6) (at + 7) (omega (arith, long)) (omega arith))
    ∙ ap (λ l. slice_index bytes (at + 4) ∷ slice_index bytes (at + 5) ∷ slice_index bytes (at + 6) ∷ l) (one_on bytes (at + 7) (at + 8) (omega (arith, long)) (omega arith)))

pub field_8 : (bytes : List ℕ) (at : ℕ) → AreBytes bytes → at + 8 ≤ length bytes → drop at bytes ≡ to_be_bytes w64 (u64_at bytes at) ++ drop (at + 8) bytes
field_8 bytes at small long =
    let piece : List ℕ = slice_index bytes at ∷ slice_index bytes (at + 1) ∷ slice_index bytes (at + 2) ∷ slice_index bytes (at + 3)
    ∷ slice_index bytes (at + 4) ∷ slice_index bytes (at + 5) ∷ slice_index bytes (at + 6) ∷ slice_index bytes (at + 7) ∷ [] in
    eight_on bytes at long ∙ ap (λ l. l ++ drop (at + 8) bytes) (sym (be_bytes_8 piece (u64_at bytes at) refl
    (each piece (small at, (small (at + 1), (small (at + 2), (small (at + 3), (small (at + 4), (small (at + 5), (small (at + 6), (small (at + 7), tt))))))))) refl))

nth_on : (bytes front : List ℕ) (at i : ℕ) → drop at bytes ≡ front → slice_index bytes (at + i) ≡ get_or front i 0
nth_on bytes front at i there = sym (get_or-drop at bytes i 0) ∙ ap (λ l. get_or l i 0) there

-- the number of eight bytes that stand there
pub number_8 : (bytes : List ℕ) (at a b c d e f g h : ℕ) (rest : List ℕ) → drop at bytes ≡ a ∷ b ∷ c ∷ d ∷ e ∷ f ∷ g ∷ h ∷ rest
    → u64_at bytes at ≡ from_be_bytes w64 (a ∷ b ∷ c ∷ d ∷ e ∷ f ∷ g ∷ h ∷ [])
number_8 bytes at a b c d e f g h rest there =
    let front : List ℕ = a ∷ b ∷ c ∷ d ∷ e ∷ f ∷ g ∷ h ∷ rest in
    let zeroth : slice_index bytes at ≡ a = ap (λ k. slice_index bytes k) (omega arith) ∙ nth_on bytes front at 0 there in
    rw (
      zeroth,
      nth_on bytes front at 1 there,
      nth_on bytes front at 2 there,
      nth_on bytes front at 3 there,
      nth_on bytes front at 4 there,
      nth_on bytes front at 5 there,
      nth_on bytes front at 6 there,
      nth_on bytes front at 7 there,
    ) refl
