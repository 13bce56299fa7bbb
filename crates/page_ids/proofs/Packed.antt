-- Words of given fields: their fields, and what steps on them leave.
use Rattle.std.specs.Prelude.{zero, suc, ◌==◌, ◌/◌, ◌%◌, ◌-◌}
use Rattle.std.proofs.Common.{◌≡◌, ℕ, ◌+◌, ◌*◌, ◌<◌, ◌^◌, refl, sym, ap, ◌∙◌, arith, bit_or, bit_and}
use Rattle.std.proofs.lemmas.Nat.{or_block, and_block, and_mask}
use Rattle.std.specs.Int.Bits.{or_zero_r, and_zero_r}
use Rattle.page_ids.specs.FrameWord.{fixes_of, is_latched, is_resident, clock_of, packed, bit, FitsWord, HasFields, StaysPacked}
use Rattle.page_ids.specs.declared.frame_word.Word.{Word}

latch_is : (n l r c : ℕ) → n < 2 ^ 14 → l < 2 → r < 2 → packed n l r c / 2 ^ 14 % 2 ≡ l
latch_is n l r c few one page = omega arith

page_is : (n l r c : ℕ) → n < 2 ^ 14 → l < 2 → r < 2 → packed n l r c / 2 ^ 15 % 2 ≡ r
page_is n l r c few one page = omega arith

pub fields_are : (n l r c : ℕ) → FitsWord n l r c → HasFields (record { bits = packed n l r c }) n l r c
fields_are n l r c fits = record {
  inside = omega (arith, fits.few, fits.one_latch, fits.one_page, fits.early);
  fixes_are = omega (arith, fits.few, fits.one_latch, fits.one_page);
  latch_is = ap (λ (k : ℕ). k == 1) (latch_is n l r c fits.few fits.one_latch fits.one_page);
  residence_is = ap (λ (k : ℕ). k == 1) (page_is n l r c fits.few fits.one_latch fits.one_page);
  clock_is = omega (arith, fits.few, fits.one_latch, fits.one_page);
}

bit_is : (k : ℕ) → k < 2 → bit (k == 1) ≡ k
bit_is zero small = refl
bit_is (suc zero) small = refl
bit_is (suc (suc k)) small = omega (arith, small)

pub whole_is : (w : Word) → packed (fixes_of w) (bit (is_latched w)) (bit (is_resident w)) (clock_of w) ≡ w.bits
whole_is w =
    let latch : bit (is_latched w) ≡ w.bits / 2 ^ 14 % 2 = bit_is (w.bits / 2 ^ 14 % 2) (omega arith) in
    let page : bit (is_resident w) ≡ w.bits / 2 ^ 15 % 2 = bit_is (w.bits / 2 ^ 15 % 2) (omega arith) in
    omega (arith, latch, page)

-- the latch between what stands above and below it
above_latch : (n l r c : ℕ) → packed n l r c ≡ ((r + c * 2) * 2 ^ 1 + l) * 2 ^ 14 + n
above_latch n l r c = omega arith

-- and residence
above_page : (n l r c : ℕ) → packed n l r c ≡ (c * 2 ^ 1 + r) * 2 ^ 15 + (n + l * 2 ^ 14)
above_page n l r c = omega arith

or_one : (l : ℕ) → l < 2 → bit_or l 1 ≡ 1
or_one zero small = refl
or_one (suc zero) small = refl
or_one (suc (suc k)) small = omega (arith, small)

-- a bit is set between what stands above and below it
set : (h l n : ℕ) → l < 2 → n < 2 ^ 14 → bit_or ((h * 2 ^ 1 + l) * 2 ^ 14 + n) ((0 * 2 ^ 1 + 1) * 2 ^ 14 + 0) ≡ (h * 2 ^ 1 + 1) * 2 ^ 14 + n
set h l n one few =
    let upper : bit_or (h * 2 ^ 1 + l) (0 * 2 ^ 1 + 1) ≡ h * 2 ^ 1 + 1 =
    or_block 1 h 0 l 1 one (omega arith) ∙ (ap (λ (x : ℕ). x * 2 ^ 1 + bit_or l 1) (or_zero_r h) ∙ ap (λ (x : ℕ). h * 2 ^ 1 + x) (or_one l one)) in
    or_block 14 (h * 2 ^ 1 + l) (0 * 2 ^ 1 + 1) n 0 few (omega arith)
    ∙ (ap (λ (x : ℕ). x * 2 ^ 14 + bit_or n 0) upper ∙ ap (λ (x : ℕ). (h * 2 ^ 1 + 1) * 2 ^ 14 + x) (or_zero_r n))

-- a bit is cleared; k bits stand below it, and m above
cleared : (k m h l n : ℕ) → 2 ^ k - 1 < 2 ^ k → n < 2 ^ k → n % 2 ^ k ≡ n → h % 2 ^ m ≡ h → l < 2
    → bit_and ((h * 2 ^ 1 + l) * 2 ^ k + n) (((2 ^ m - 1) * 2 ^ 1 + 0) * 2 ^ k + (2 ^ k - 1)) ≡ (h * 2 ^ 1 + 0) * 2 ^ k + n
cleared k m h l n mask below low high one =
    let upper : bit_and (h * 2 ^ 1 + l) ((2 ^ m - 1) * 2 ^ 1 + 0) ≡ h * 2 ^ 1 + 0 =
    and_block 1 h (2 ^ m - 1) l 0 one (omega arith)
    ∙ (ap (λ (x : ℕ). x * 2 ^ 1 + bit_and l 0) (and_mask h m ∙ high) ∙ ap (λ (x : ℕ). h * 2 ^ 1 + x) (and_zero_r l)) in
    and_block k (h * 2 ^ 1 + l) ((2 ^ m - 1) * 2 ^ 1 + 0) n (2 ^ k - 1) below mask
    ∙ (ap (λ (x : ℕ). x * 2 ^ k + bit_and n (2 ^ k - 1)) upper ∙ ap (λ (x : ℕ). (h * 2 ^ 1 + 0) * 2 ^ k + x) (and_mask n k ∙ low))

latched_is : (n l r c : ℕ) → FitsWord n l r c → bit_or (packed n l r c) (2 ^ 14) ≡ packed n 1 r c
latched_is n l r c fits = ap (λ (x : ℕ). bit_or x (2 ^ 14)) (above_latch n l r c) ∙ (set (r + c * 2) l n fits.one_latch fits.few ∙ sym (above_latch n 1 r c))

unlatched_is : (n l r c : ℕ) → FitsWord n l r c → bit_and (packed n l r c) (2 ^ 64 - 1 - 2 ^ 14) ≡ packed n 0 r c
unlatched_is n l r c fits =
    let low : n % 2 ^ 14 ≡ n = omega (arith, fits.few) in
    let high : (r + c * 2) % 2 ^ 49 ≡ r + c * 2 = omega (arith, fits.one_page, fits.early) in
    ap (λ (x : ℕ). bit_and x (2 ^ 64 - 1 - 2 ^ 14)) (above_latch n l r c)
    ∙ (cleared 14 49 (r + c * 2) l n (omega arith) fits.few low high fits.one_latch ∙ sym (above_latch n 0 r c))

claimed_is : (n l r c : ℕ) → FitsWord n l r c → bit_and (packed n l r c) (2 ^ 64 - 1 - 2 ^ 15) ≡ packed n l 0 c
claimed_is n l r c fits =
    let below : n + l * 2 ^ 14 < 2 ^ 15 = omega (arith, fits.few, fits.one_latch) in
    let low : (n + l * 2 ^ 14) % 2 ^ 15 ≡ n + l * 2 ^ 14 = omega (arith, below) in
    let high : c % 2 ^ 48 ≡ c = omega (arith, fits.early) in
    ap (λ (x : ℕ). bit_and x (2 ^ 64 - 1 - 2 ^ 15)) (above_page n l r c)
    ∙ (cleared 15 48 c r (n + l * 2 ^ 14) (omega arith) below low high fits.one_page ∙ sym (above_page n l 0 c))

pub stays_packed : (n l r c : ℕ) → FitsWord n l r c → StaysPacked n l r c
stays_packed n l r c fits = record {
  more = λ room. omega (arith, room, fits.one_latch, fits.one_page, fits.early);
  fewer = λ some. omega (arith, some, fits.few, fits.one_latch, fits.one_page, fits.early);
  latched = latched_is n l r c fits;
  unlatched = unlatched_is n l r c fits;
  claimed = claimed_is n l r c fits;
  published = λ later early away. omega (arith, early, away, fits.few, fits.one_latch);
  stamped = λ later early. omega (arith, early, fits.few, fits.one_latch, fits.one_page);
}
