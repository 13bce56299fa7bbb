-- What an image's bytes become by the stamps.
use Rattle.std.proofs.Common.{◌≡◌, ◌<◌, ◌≤◌, ◌+◌, ◌-◌, ◌⊎◌, ℕ, List, Bool, true, false, inl, inr, if◌then◌else◌, get_or, length, refl, ap, sym, ◌∙◌, arith}
use Rattle.std.proofs.lemmas.Bool.Decides.{nat_tests}
use Rattle.page_ids.specs.Content.{Content, IsBlanked, is_stamped}
use Rattle.page_ids.specs.Layout.{IsPage, IsWritten, u32_at, u64_at}
use Rattle.page_ids.specs.declared.ids.PageId.{PageId}

-- numbers of the same bytes
same_4 : (a b : List ℕ) (at : ℕ) → ((k : ℕ) → at ≤ k → k < at + 4 → get_or a k 0 ≡ get_or b k 0) → u32_at a at ≡ u32_at b at
same_4 a b at each =
    rw (each at (omega arith) (omega arith), each (at + 1) (omega arith) (omega arith), each (at + 2) (omega arith) (omega arith), each (at + 3) (omega arith) (omega arith)) refl

same_8 : (a b : List ℕ) (at : ℕ) → ((k : ℕ) → at ≤ k → k < at + 8 → get_or a k 0 ≡ get_or b k 0) → u64_at a at ≡ u64_at b at
same_8 a b at each =
    rw (
      each at (omega arith) (omega arith),
      each (at + 1) (omega arith) (omega arith),
      each (at + 2) (omega arith) (omega arith),
      each (at + 3) (omega arith) (omega arith),
      each (at + 4) (omega arith) (omega arith),
      each (at + 5) (omega arith) (omega arith),
      each (at + 6) (omega arith) (omega arith),
      each (at + 7) (omega arith) (omega arith),
    ) refl

kept_of : (b : Bool) (v w : ℕ) → (b ≡ true → v ≡ 0) → (b ≡ false → w ≡ v) → v ≡ (if b then 0 else w)
kept_of true v w zero_is same = zero_is refl
kept_of false v w zero_is same = sym (same refl)

unstamped_place : (size k : ℕ) → is_stamped size k ≡ false → (4 ≤ k) × (k < size - 8)
unstamped_place size k is = grind (arith, nat_tests)

-- An image's bytes are its page where all but the checksums was stamped in `mid`, and the checksums in `out`.
module _ (p : PageId) (c : Content) (mid out : List ℕ) (blanked : IsBlanked c.bytes)
    (mid_size : length mid ≡ length c.bytes) (out_size : length out ≡ length c.bytes)
    (written : IsWritten p mid) (lsn : u64_at mid 16 ≡ c.lsn)
    (body : (k : ℕ) → is_stamped (length c.bytes) k ≡ false → get_or mid k 0 ≡ get_or c.bytes k 0)
    (others : (k : ℕ) → (4 ≤ k × k < length mid - 8) ⊎ length mid - 4 ≤ k → get_or out k 0 ≡ get_or mid k 0) where
  header : (k : ℕ) → 4 ≤ k → k < 38 → get_or out k 0 ≡ get_or mid k 0
  header k low high = others k (inl ((omega arith), (omega (arith, mid_size, blanked.size))))

  tail : u32_at out (length out - 4) ≡ u32_at mid (length mid - 4)
  tail = same_4 out mid (length out - 4) (λ k low high. others k (inr (omega (arith, mid_size, out_size)))) ∙ ap (λ n. u32_at mid (n - 4)) (out_size ∙ sym mid_size)

  still : IsWritten p out
  still = record {
    number = same_4 out mid 4 (λ k low high. header k (omega arith) (omega arith)) ∙ written.number;
    space = same_4 out mid 34 (λ k low high. header k (omega arith) (omega arith)) ∙ written.space;
    whole = same_4 out mid 20 (λ k low high. header k (omega arith) (omega arith)) ∙ written.whole ∙ sym tail;
  }

  kept : (k : ℕ) → k < length out → get_or c.bytes k 0 ≡ (if is_stamped (length out) k then 0 else get_or out k 0)
  kept k inside = rw out_size (kept_of (is_stamped (length c.bytes) k) (get_or c.bytes k 0) (get_or out k 0) (blanked.stamped k (omega (arith, out_size)))
      (λ f. let place = unstamped_place (length c.bytes) k f in others k (inl (place.0, (omega (arith, place.1, mid_size)))) ∙ body k f))

  pub encoded : IsPage p out c
  encoded = record {
    sound = inr still;
    content_is = record {
      lsn = sym (same_8 out mid 16 (λ k low high. header k (omega arith) (omega arith)) ∙ lsn);
      size = sym out_size;
      kept = kept;
    };
  }
