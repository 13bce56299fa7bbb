-- The fields of a frame's word, the word of given fields, what the steps on a word make of it, and its text.
use Rattle.std.specs.Prelude.{ℕ, Bool, true, false, List, [], ◌∷◌, ◌++◌, ◌==◌, ◌≡◌, ◌<◌, ◌+◌, ◌-◌, ◌*◌, ◌/◌, ◌%◌, ◌^◌, codes}
use Rattle.std.specs.Int.Bits.{bit_and, bit_or}
use Rattle.std.specs.Fmt.{decimal}
use Rattle.page_ids.specs.declared.limits.TheConstants.{CLOCK_BIT, CLOCK_BITS, FIX_BITS, LATCH_BIT, RESIDENT_BIT}
use Rattle.page_ids.specs.declared.frame_word.Word.{Word}

abbrev pub fixes_of : Word → ℕ
fixes_of w = w.bits % 2 ^ FIX_BITS

abbrev pub is_latched : Word → Bool
is_latched w = w.bits / 2 ^ LATCH_BIT % 2 == 1

abbrev pub is_resident : Word → Bool
is_resident w = w.bits / 2 ^ RESIDENT_BIT % 2 == 1

abbrev pub clock_of : Word → ℕ
clock_of w = w.bits / 2 ^ CLOCK_BIT

-- the bits of the word with these fixes, latch, residence and clock; latch and residence are 0 or 1
abbrev pub packed : ℕ → ℕ → ℕ → ℕ → ℕ
packed fixes latch resident clock = fixes + latch * 2 ^ LATCH_BIT + resident * 2 ^ RESIDENT_BIT + clock * 2 ^ CLOCK_BIT

abbrev pub bit : Bool → ℕ
bit false = 0
bit true = 1

-- the numbers fit the fields of a word
pub record FitsWord (fixes latch resident clock : ℕ) : Type 0 where
  pub few : fixes < 2 ^ FIX_BITS
  pub one_latch : latch < 2
  pub one_page : resident < 2
  pub early : clock < 2 ^ CLOCK_BITS

-- the word has these four fields, and no more
pub record HasFields (w : Word) (fixes latch resident clock : ℕ) : Type 0 where
  pub inside : w.bits < 2 ^ 64
  pub fixes_are : fixes_of w ≡ fixes
  pub latch_is : is_latched w ≡ (latch == 1)
  pub residence_is : is_resident w ≡ (resident == 1)
  pub clock_is : clock_of w ≡ clock

-- Each atomic step on a packed word leaves a packed word. Added and taken are numbers modulo 2^64.
pub record StaysPacked (fixes latch resident clock : ℕ) : Type 0 where
  -- one fix more
  pub more : fixes + 1 < 2 ^ FIX_BITS → (packed fixes latch resident clock + 1) % 2 ^ 64 ≡ packed (fixes + 1) latch resident clock
  -- one fix less
  pub fewer : 0 < fixes → (packed fixes latch resident clock + (2 ^ 64 - 1)) % 2 ^ 64 ≡ packed (fixes - 1) latch resident clock
  -- the latch is set, and cleared
  pub latched : bit_or (packed fixes latch resident clock) (2 ^ LATCH_BIT) ≡ packed fixes 1 resident clock
  pub unlatched : bit_and (packed fixes latch resident clock) (2 ^ 64 - 1 - 2 ^ LATCH_BIT) ≡ packed fixes 0 resident clock
  -- the page is claimed
  pub claimed : bit_and (packed fixes latch resident clock) (2 ^ 64 - 1 - 2 ^ RESIDENT_BIT) ≡ packed fixes latch 0 clock
  -- a page is published, at a clock that is later by so much
  pub published : (later : ℕ) → clock + later < 2 ^ CLOCK_BITS → resident ≡ 0
      → (packed fixes latch resident clock + (later * 2 ^ CLOCK_BIT + 2 ^ RESIDENT_BIT)) % 2 ^ 64 ≡ packed fixes latch 1 (clock + later)
  -- the clock alone becomes later
  pub stamped : (later : ℕ) → clock + later < 2 ^ CLOCK_BITS
      → (packed fixes latch resident clock + later * 2 ^ CLOCK_BIT) % 2 ^ 64 ≡ packed fixes latch resident (clock + later)

-- the frame of the first pair, where there is one, is above
abbrev pub IsAbove : ℕ → List (ℕ × Word) → Type 0
IsAbove f [] = Unit {0}
IsAbove f (w ∷ ws) = f < w.0

-- frames with words in rising order of frame, each frame once
abbrev pub AreRising : List (ℕ × Word) → Type 0
AreRising [] = Unit {0}
AreRising (w ∷ ws) = IsAbove w.0 ws × AreRising ws

-- resident, latched
abbrev pub flags_text : Bool → Bool → List ℕ
flags_text false false = codes "-"
flags_text false true = codes "L"
flags_text true false = codes "R"
flags_text true true = codes "RL"

-- CLOCK/FLAGS/FIXES
abbrev pub word_text : Word → List ℕ
word_text w = decimal (clock_of w) ++ 47 ∷ flags_text (is_resident w) (is_latched w) ++ 47 ∷ decimal (fixes_of w)
