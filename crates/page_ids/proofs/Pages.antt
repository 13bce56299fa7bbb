-- Bytes and images tell each other.
use Rattle.std.proofs.Common.{◌≡◌, ◌<◌, ◌≤◌, ◌+◌, ◌-◌, ◌⊎◌, ℕ, zero, suc, List, [], ◌∷◌, All, Bool, true, false, inl, inr, if◌then◌else◌, get_or, length, refl, ap, sym, ◌∙◌, subst, arith}
use Rattle.std.specs.Int.{to_be_bytes, w32, w64}
use Rattle.std.proofs.lemmas.Bool.{cases_lt}
use Rattle.std.proofs.lemmas.Bool.Decides.{nat_tests}
use Rattle.std.proofs.lemmas.Grind.{same_number_lists}
use Rattle.std.proofs.lemmas.List.{get_or_past}
use Rattle.std.proofs.lemmas.Nat.{be_bytes_4, be_bytes_8}
use Rattle.page_ids.specs.Content.{Content, is_stamped}
use Rattle.page_ids.specs.Layout.{IsPage, IsContent, IsWritten, IsSummed, IsSound, u32_at, u64_at}
use Rattle.page_ids.specs.declared.ids.PageId.{PageId}

-- the content of bytes is one
pub one_content : (bytes : List ℕ) (c d : Content) → IsContent bytes c → IsContent bytes d → c ≡ d
one_content bytes c d a b =
    let make = λ (n : ℕ) (xs : List ℕ). let x : Content = record { lsn = n; bytes = xs } in x in
    let sizes : length c.bytes ≡ length d.bytes = a.size ∙ sym b.size in
    let each : (k : ℕ) → k < length c.bytes → get_or c.bytes k 0 ≡ get_or d.bytes k 0 = λ k inside. a.kept k (omega (arith, a.size)) ∙ sym (b.kept k (omega (arith, a.size))) in
    ap (λ n. make n c.bytes) (a.lsn ∙ sym b.lsn) ∙ ap (λ xs. make d.lsn xs) (same_number_lists c.bytes d.bytes sizes each)

-- each number is a byte, and so is what is read behind the end
abbrev AreBytes : List ℕ → Type 0
AreBytes bytes = (i : ℕ) → get_or bytes i 0 < 256

bytes_of_all : (bytes : List ℕ) → All (λ byte. byte < 256) bytes → AreBytes bytes
bytes_of_all bytes all i = elim (cases_lt i (length bytes)) [
  | inl inside ↦ all i 0 inside
  | inr past ↦ rw (get_or_past bytes i 0 past) (omega arith)
]

abbrev AllSmall : List ℕ → Type 0
AllSmall [] = Unit {0}
AllSmall (x ∷ xs) = (x < 256) × AllSmall xs

small_each : (xs : List ℕ) → AllSmall xs → AreBytes xs
small_each [] all i = omega arith
small_each (x ∷ xs) all zero = all.0
small_each (x ∷ xs) all (suc i) = small_each xs all.1 i

-- the bytes that stand at a place
abbrev four : List ℕ → ℕ → List ℕ
four bytes at = get_or bytes at 0 ∷ get_or bytes (at + 1) 0 ∷ get_or bytes (at + 2) 0 ∷ get_or bytes (at + 3) 0 ∷ []

abbrev eight : List ℕ → ℕ → List ℕ
eight bytes at = get_or bytes at 0 ∷ get_or bytes (at + 1) 0 ∷ get_or bytes (at + 2) 0 ∷ get_or bytes (at + 3) 0
    ∷ get_or bytes (at + 4) 0 ∷ get_or bytes (at + 5) 0 ∷ get_or bytes (at + 6) 0 ∷ get_or bytes (at + 7) 0 ∷ []

four_of : (bytes : List ℕ) (at : ℕ) → AreBytes bytes → to_be_bytes w32 (u32_at bytes at) ≡ four bytes at
four_of bytes at small = be_bytes_4 (four bytes at) (u32_at bytes at) refl (small_each (four bytes at) (small at, (small (at + 1), (small (at + 2), (small (at + 3), tt))))) refl

eight_of : (bytes : List ℕ) (at : ℕ) → AreBytes bytes → to_be_bytes w64 (u64_at bytes at) ≡ eight bytes at
eight_of bytes at small = be_bytes_8 (eight bytes at) (u64_at bytes at) refl (small_each (eight bytes at)
    (small at, (small (at + 1), (small (at + 2), (small (at + 3), (small (at + 4), (small (at + 5), (small (at + 6), (small (at + 7), tt))))))))) refl

four_at : (bytes : List ℕ) (at i : ℕ) → i < 4 → get_or (four bytes at) i 0 ≡ get_or bytes (at + i) 0
four_at bytes at i small = grind (arith, nat_tests)

eight_at : (bytes : List ℕ) (at i : ℕ) → i < 8 → get_or (eight bytes at) i 0 ≡ get_or bytes (at + i) 0
eight_at bytes at i small = grind (arith, nat_tests)

-- a number tells the bytes in which it stands
told_4 : (a b : List ℕ) (at k : ℕ) → AreBytes a → AreBytes b → u32_at a at ≡ u32_at b at → at ≤ k → k < at + 4 → get_or a k 0 ≡ get_or b k 0
told_4 a b at k small_a small_b same low high =
    let there : at + (k - at) ≡ k = omega arith in
    let lists : four a at ≡ four b at = sym (four_of a at small_a) ∙ ap (to_be_bytes w32) same ∙ four_of b at small_b in
    let here : get_or a (at + (k - at)) 0 ≡ get_or b (at + (k - at)) 0 =
    sym (four_at a at (k - at) (omega arith)) ∙ ap (λ l. get_or l (k - at) 0) lists ∙ four_at b at (k - at) (omega arith) in
    subst (λ j. get_or a j 0 ≡ get_or b j 0) there here

told_8 : (a b : List ℕ) (at k : ℕ) → AreBytes a → AreBytes b → u64_at a at ≡ u64_at b at → at ≤ k → k < at + 8 → get_or a k 0 ≡ get_or b k 0
told_8 a b at k small_a small_b same low high =
    let there : at + (k - at) ≡ k = omega arith in
    let lists : eight a at ≡ eight b at = sym (eight_of a at small_a) ∙ ap (to_be_bytes w64) same ∙ eight_of b at small_b in
    let here : get_or a (at + (k - at)) 0 ≡ get_or b (at + (k - at)) 0 =
    sym (eight_at a at (k - at) (omega arith)) ∙ ap (λ l. get_or l (k - at) 0) lists ∙ eight_at b at (k - at) (omega arith) in
    subst (λ j. get_or a j 0 ≡ get_or b j 0) there here

-- a page with its checksum fields stamped is not blank
written_of : (p : PageId) (bytes : List ℕ) → IsSound p bytes → IsSummed bytes → IsWritten p bytes
written_of p bytes (inr written) sums = written
written_of p bytes (inl blank) sums = absurd (omega (arith, zero_is, sums.head))
  where
    zero_at : (k : ℕ) → get_or bytes k 0 ≡ 0
    zero_at k = elim (cases_lt k (length bytes)) [ inl inside ↦ blank k inside | inr past ↦ get_or_past bytes k 0 past ]

    zero_is : u32_at bytes 0 ≡ 0
    zero_is = rw (zero_at 0, zero_at 1, zero_at 2, zero_at 3) refl

kept_same : (s : Bool) (a b c : ℕ) → c ≡ (if s then 0 else a) → c ≡ (if s then 0 else b) → (s ≡ true → a ≡ b) → a ≡ b
kept_same true a b c is_a is_b stamped = stamped refl
kept_same false a b c is_a is_b stamped = sym is_a ∙ is_b

-- where a stamped byte stands: in the first eight, the LSN, the space, or the last eight
stamped_place : (size k : ℕ) → is_stamped size k ≡ true
    → (k < 8) ⊎ (16 ≤ k × k < 24) ⊎ (34 ≤ k × k < 38) ⊎ (8 ≤ k × size - 8 ≤ k)
stamped_place size k is = grind (arith, nat_tests)

module _ (p : PageId) (a b : List ℕ) (c : Content) (small_a : AreBytes a) (small_b : AreBytes b) (sums_a : IsSummed a) (sums_b : IsSummed b)
    (written_a : IsWritten p a) (written_b : IsWritten p b) (of_a : IsContent a c) (of_b : IsContent b c) where
  sizes : length a ≡ length b
  sizes = sym of_a.size ∙ of_b.size

  lsn_at : (k : ℕ) → 16 ≤ k → k < 24 → get_or a k 0 ≡ get_or b k 0
  lsn_at k low high = told_8 a b 16 k small_a small_b (sym of_a.lsn ∙ of_b.lsn) low (omega arith)

  first_eight : (k : ℕ) → k < 8 → get_or a k 0 ≡ get_or b k 0
  first_eight k small = elim (cases_lt k 4) [
    | inl sum ↦ told_4 a b 0 k small_a small_b (sums_a.head ∙ sym sums_b.head) (omega arith) (omega arith)
    | inr number ↦ told_4 a b 4 k small_a small_b (written_a.number ∙ sym written_b.number) number (omega arith)
  ]

  head_same : u32_at a 20 ≡ u32_at b 20
  head_same = rw (lsn_at 20 (omega arith) (omega arith), lsn_at 21 (omega arith) (omega arith), lsn_at 22 (omega arith) (omega arith), lsn_at 23 (omega arith) (omega arith)) refl

  tail_same : u32_at a (length a - 4) ≡ u32_at b (length a - 4)
  tail_same = sym written_a.whole ∙ head_same ∙ written_b.whole ∙ ap (λ n. u32_at b (n - 4)) (sym sizes)

  sums_same : u32_at a (length a - 8) ≡ u32_at b (length a - 8)
  sums_same = sums_a.tail ∙ sym sums_b.tail ∙ ap (λ n. u32_at b (n - 8)) (sym sizes)

  last_eight : (k : ℕ) → 8 ≤ k → length a - 8 ≤ k → k < length a → get_or a k 0 ≡ get_or b k 0
  last_eight k large low inside = elim (cases_lt k (length a - 4)) [
    | inl sum ↦ told_4 a b (length a - 8) k small_a small_b sums_same low (omega arith)
    | inr tail ↦ told_4 a b (length a - 4) k small_a small_b tail_same tail (omega arith)
  ]

  stamped : (k : ℕ) → k < length a → is_stamped (length a) k ≡ true → get_or a k 0 ≡ get_or b k 0
  stamped k inside is = place (stamped_place (length a) k is)
    where
      place : (k < 8) ⊎ (16 ≤ k × k < 24) ⊎ (34 ≤ k × k < 38) ⊎ (8 ≤ k × length a - 8 ≤ k) → get_or a k 0 ≡ get_or b k 0
      place (inl first) = first_eight k first
      place (inr (inl lsn)) = lsn_at k lsn.0 lsn.1
      place (inr (inr (inl space))) = told_4 a b 34 k small_a small_b (written_a.space ∙ sym written_b.space) space.0 (omega (arith, space.1))
      place (inr (inr (inr last))) = last_eight k last.0 last.1 inside

  pub one_page : a ≡ b
  one_page = same_number_lists a b sizes (λ k inside. kept_same (is_stamped (length a) k) (get_or a k 0) (get_or b k 0) (get_or c.bytes k 0)
      (of_a.kept k inside) (rw sizes (of_b.kept k (omega (arith, sizes)))) (stamped k inside))

pub one_page_of : (p : PageId) (a b : List ℕ) (c : Content) → All (λ byte. byte < 256) a → All (λ byte. byte < 256) b
    → IsSummed a → IsSummed b → IsPage p a c → IsPage p b c → a ≡ b
one_page_of p a b c small_a small_b sums_a sums_b page_a page_b =
    one_page p a b c (bytes_of_all a small_a) (bytes_of_all b small_b) sums_a sums_b
    (written_of p a page_a.sound sums_a) (written_of p b page_b.sound sums_b) page_a.content_is page_b.content_is
