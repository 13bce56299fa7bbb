-- No word of a line has a blank or a line's end.
use Rattle.std.proofs.Common.{ℕ, List, [], ◌∷◌, ◌++◌, ◌≡◌, ◌+◌, ◌/◌, ◌%◌, ◌^◌, ◌<◌, ◌≤◌, ◌∙◌, ◌&&◌, Bool, true, false, nat_lt, nat_eq, refl, ap, append_assoc, arith}
use Rattle.std.specs.Prelude.{◌==◌}
use Rattle.std.specs.Fmt.{decimal, digit_glyph}
use Rattle.std.proofs.lemmas.Fmt.{decimal_by_steps}
use Rattle.std.proofs.lemmas.Bool.Decides.{nat_tests}
use Rattle.std.proofs.lemmas.List.Elements.{All-cons, All-nil}
use Rattle.page_ids.specs.FrameWord.{word_text, flags_text, clock_of, fixes_of, is_resident, is_latched}
use Rattle.page_ids.specs.Spelling.{page_text, hex, after_commas, list_text, frame_text}
use Rattle.page_ids.specs.declared.frame_word.Word.{Word}
use Rattle.page_ids.specs.declared.ids.PageId.{PageId}
use Rattle.page_ids.proofs.Cuts.{Lacks}
use Rattle.page_ids.specs.Typed.{FitsId, IsWord, AreBytes, ArePages, AreFrameWords}

-- the bytes behind the blank in ASCII
abbrev pub visible : List ℕ → Bool
visible [] = true
visible (c ∷ cs) = nat_lt 32 c && visible cs

abbrev pub AreVisible : List (List ℕ) → Type 0
AreVisible [] = Unit {0}
AreVisible (w ∷ ws) = (visible w ≡ true) × AreVisible ws

pub both_visible : (ws vs : List (List ℕ)) → AreVisible ws → AreVisible vs → AreVisible (ws ++ vs)
both_visible [] vs a b = b
both_visible (w ∷ ws) vs a b = (a.0, both_visible ws vs a.1 b)

pub visible-append : (xs ys : List ℕ) → visible xs ≡ true → visible ys ≡ true → visible (xs ++ ys) ≡ true
visible-append [] ys a b = b
visible-append (x ∷ xs) ys a b = one (nat_lt 32 x) a (λ more. visible-append xs ys more b)
  where
    one : (t : Bool) → (t && visible xs) ≡ true → (visible xs ≡ true → visible (xs ++ ys) ≡ true) → (t && visible (xs ++ ys)) ≡ true
    one true a more = more a
    one false a more = a

-- a visible word lacks every byte up to the blank
pub visible_lacks : (c : ℕ) → c < 33 → (w : List ℕ) → visible w ≡ true → Lacks c w
visible_lacks c low [] v = All-nil (λ x. (x == c) ≡ false)
visible_lacks c low (x ∷ xs) v = one (nat_lt 32 x) refl v (λ more. visible_lacks c low xs more)
  where
    one : (t : Bool) → nat_lt 32 x ≡ t → (t && visible xs) ≡ true → (visible xs ≡ true → Lacks c xs) → Lacks c (x ∷ xs)
    one true test v more = All-cons (λ y. (y == c) ≡ false) x xs (let other : nat_eq x c ≡ false = grind (arith, nat_tests) in other) (more v)
    one false test v more = absurd (cc)

-- numbers, ids, words and lists
pub number_visible : (n : ℕ) → n < 2 ^ 64 → visible (decimal n) ≡ true
number_visible n wide = decimal_by_steps (λ k ds. visible ds ≡ true) one more n wide
  where
    digit : (d : ℕ) → d < 10 → visible ((48 + d) ∷ []) ≡ true
    digit d small = grind (arith, nat_tests)

    one : (k : ℕ) → k < 10 → visible ((48 + k) ∷ []) ≡ true
    one k small = digit k small

    more : (k : ℕ) (ds : List ℕ) → 10 ≤ k → visible ds ≡ true → visible (ds ++ ((48 + k % 10) ∷ [])) ≡ true
    more k ds big v = visible-append ds ((48 + k % 10) ∷ []) v (digit (k % 10) (omega arith))

pub small_visible : (n : ℕ) → n < 2 ^ 32 → visible (decimal n) ≡ true
small_visible n small = number_visible n (omega arith)

pub page_visible : (p : PageId) → FitsId p → visible (page_text p) ≡ true
page_visible p h = visible-append (decimal p.space) (58 ∷ decimal p.page) (small_visible p.space h.0) (small_visible p.page h.1)

glyph_visible : (d : ℕ) (w : List ℕ) → d < 16 → visible w ≡ true → visible (digit_glyph false d ∷ w) ≡ true
glyph_visible d w small v = let high : nat_lt 32 (digit_glyph false d) ≡ true = grind (arith, nat_tests) in rw high v

pub hex_visible : (bs : List ℕ) → AreBytes bs → visible (hex bs) ≡ true
hex_visible [] h = refl
hex_visible (b ∷ bs) h =
    glyph_visible (b / 16) (digit_glyph false (b % 16) ∷ hex bs) (omega (arith, h.0)) (glyph_visible (b % 16) (hex bs) (omega arith) (hex_visible bs h.1))

flags_visible : (r l : Bool) → visible (flags_text r l) ≡ true
flags_visible false false = refl
flags_visible false true = refl
flags_visible true false = refl
flags_visible true true = refl

-- CLOCK/FLAGS/FIXES, from the left
pub word_parts : (w : Word) → word_text w ≡ decimal (clock_of w) ++ 47 ∷ (flags_text (is_resident w) (is_latched w) ++ 47 ∷ decimal (fixes_of w))
word_parts w = append_assoc (decimal (clock_of w)) (47 ∷ flags_text (is_resident w) (is_latched w)) (47 ∷ decimal (fixes_of w))

pub word_visible : (w : Word) → IsWord w → visible (word_text w) ≡ true
word_visible w h =
    ap visible (word_parts w) ∙ visible-append (decimal (clock_of w)) (47 ∷ (flags_text (is_resident w) (is_latched w) ++ 47 ∷ decimal (fixes_of w))) (number_visible (clock_of w) (omega (arith, h)))
    (visible-append (flags_text (is_resident w) (is_latched w)) (47 ∷ decimal (fixes_of w)) (flags_visible (is_resident w) (is_latched w)) (number_visible (fixes_of w) (omega arith)))

frame_visible : (f : ℕ × Word) → f.0 < 2 ^ 32 → IsWord f.1 → visible (frame_text f) ≡ true
frame_visible f small h = visible-append (decimal f.0) (61 ∷ word_text f.1) (small_visible f.0 small) (word_visible f.1 h)

frames_behind : (fs : List (ℕ × Word)) → AreFrameWords fs → visible (after_commas frame_text fs) ≡ true
frames_behind [] h = refl
frames_behind (f ∷ fs) h = visible-append (frame_text f) (after_commas frame_text fs) (frame_visible f h.0.0 h.0.1) (frames_behind fs h.1)

pub frames_visible : (fs : List (ℕ × Word)) → AreFrameWords fs → visible (list_text frame_text fs) ≡ true
frames_visible [] h = refl
frames_visible (f ∷ fs) h = visible-append (frame_text f) (after_commas frame_text fs) (frame_visible f h.0.0 h.0.1) (frames_behind fs h.1)

pages_behind : (ps : List PageId) → ArePages ps → visible (after_commas page_text ps) ≡ true
pages_behind [] h = refl
pages_behind (p ∷ ps) h = visible-append (page_text p) (after_commas page_text ps) (page_visible p h.0) (pages_behind ps h.1)

pub pages_visible : (ps : List PageId) → ArePages ps → visible (list_text page_text ps) ≡ true
pages_visible [] h = refl
pages_visible (p ∷ ps) h = visible-append (page_text p) (after_commas page_text ps) (page_visible p h.0) (pages_behind ps h.1)
