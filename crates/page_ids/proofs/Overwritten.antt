-- Bytes with a piece put over a part of them.
use Rattle.std.proofs.Common.{◌≡◌, ◌<◌, ◌≤◌, ◌+◌, ◌-◌, ◌^◌, ◌++◌, ℕ, List, inl, inr, ◌⊎◌, get_or, length, take, drop, true, refl, ap, ◌∙◌, subst, arith, length-append}
use Rattle.std.specs.Int.{to_be_bytes, w32, w64}
use Rattle.std.proofs.lemmas.Nat.{from_be_bytes-to_be_bytes_4, from_be_bytes-to_be_bytes_8}
use Rattle.std.proofs.lemmas.Bool.Decides.{nat_tests}
use Rattle.std.proofs.lemmas.List.{length-take-le, length-drop, get_or-take, get_or-drop, get_or_append_left, get_or-append_right}
use Rattle.page_ids.specs.Content.{IsRange, IsBlanked, is_stamped}
use Rattle.page_ids.specs.Layout.{u32_at, u64_at}

abbrev pub over : ℕ → List ℕ → List ℕ → List ℕ
over at piece bytes = take at bytes ++ piece ++ drop (at + length piece) bytes

module _ (at : ℕ) (piece bytes : List ℕ) (inside : at + length piece ≤ length bytes) where
  first : length (take at bytes) ≡ at
  first = length-take-le at bytes (omega (arith, inside))

  front : length (take at bytes ++ piece) ≡ at + length piece
  front = length-append (take at bytes) piece ∙ ap (λ n. n + length piece) first

  pub length-over : length (over at piece bytes) ≡ length bytes
  length-over = let all = length-append (take at bytes ++ piece) (drop (at + length piece) bytes) in let rest = length-drop (at + length piece) bytes in omega (arith, all, rest, front, inside)

  -- in the piece's range stands the piece
  pub over_here : (k i : ℕ) → k ≡ at + i → i < length piece → get_or (over at piece bytes) k 0 ≡ get_or piece i 0
  over_here k i is small =
      get_or_append_left (take at bytes ++ piece) (drop (at + length piece) bytes) 0 k (omega (arith, front))
      ∙ get_or-append_right (take at bytes) piece at k 0 first (omega arith)
      ∙ ap (λ j. get_or piece j 0) (omega arith)

  -- elsewhere all is as it was
  pub over_else : (k : ℕ) → k < at ⊎ at + length piece ≤ k → get_or (over at piece bytes) k 0 ≡ get_or bytes k 0
  over_else k where_is = elim where_is [
    | inl low ↦ get_or_append_left (take at bytes ++ piece) (drop (at + length piece) bytes) 0 k (omega (arith, front))
        ∙ get_or_append_left (take at bytes) piece 0 k (omega (arith, first)) ∙ get_or-take at bytes k 0 low
    | inr high ↦ get_or-append_right (take at bytes ++ piece) (drop (at + length piece) bytes) (at + length piece) k 0 front high
        ∙ get_or-drop (at + length piece) bytes (k - (at + length piece)) 0 ∙ ap (λ j. get_or bytes j 0) (omega arith)
  ]

pub number_4 : (at n : ℕ) (bytes : List ℕ) → at + 4 ≤ length bytes → n < 2 ^ 32 → u32_at (over at (to_be_bytes w32 n) bytes) at ≡ n
number_4 at n bytes inside fits =
    let here = over_here at (to_be_bytes w32 n) bytes inside in
    rw (here at 0 (omega arith) (omega arith), here (at + 1) 1 refl (omega arith), here (at + 2) 2 refl (omega arith), here (at + 3) 3 refl (omega arith)) (from_be_bytes-to_be_bytes_4 n fits)

pub number_8 : (at n : ℕ) (bytes : List ℕ) → at + 8 ≤ length bytes → n < 2 ^ 64 → u64_at (over at (to_be_bytes w64 n) bytes) at ≡ n
number_8 at n bytes inside fits =
    let here = over_here at (to_be_bytes w64 n) bytes inside in
    rw (
      here at 0 (omega arith) (omega arith),
      here (at + 1) 1 refl (omega arith),
      here (at + 2) 2 refl (omega arith),
      here (at + 3) 3 refl (omega arith),
      here (at + 4) 4 refl (omega arith),
      here (at + 5) 5 refl (omega arith),
      here (at + 6) 6 refl (omega arith),
      here (at + 7) 7 refl (omega arith),
    ) (from_be_bytes-to_be_bytes_8 n fits)

stamped_place : (size k : ℕ) → is_stamped size k ≡ true → (k < 38) ⊎ (size - 8 ≤ k)
stamped_place size k is = grind (arith, nat_tests)

-- a change of the body leaves what is stamped
pub blanked_patched : (at : ℕ) (piece bytes : List ℕ) → IsBlanked bytes → IsRange (length bytes) at (length piece) → IsBlanked (over at piece bytes)
blanked_patched at piece bytes blanked range = record {
  size = omega (arith, same, blanked.size);
  stamped = λ k small stamped.
      over_else at piece bytes inside k (apart k (stamped_place (length (over at piece bytes)) k stamped))
      ∙ blanked.stamped k (omega (arith, same)) (subst (λ n. is_stamped n k ≡ true) same stamped);
}
  where
    inside : at + length piece ≤ length bytes
    inside = omega (arith, range.trailer)

    same : length (over at piece bytes) ≡ length bytes
    same = length-over at piece bytes inside

    apart : (k : ℕ) → (k < 38) ⊎ (length (over at piece bytes) - 8 ≤ k) → k < at ⊎ at + length piece ≤ k
    apart k (inl low) = inl (omega (arith, range.header))
    apart k (inr high) = inr (omega (arith, same, range.trailer))
