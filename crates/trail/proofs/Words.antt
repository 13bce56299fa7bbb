-- Each word of a line is read from its spelling.
use Rattle.std.proofs.Common.{inl, inr, lit<, ℕ, List, [], ◌∷◌, ◌++◌, ◌≡◌, ◌+◌, ◌-◌, ◌*◌, ◌/◌, ◌%◌, ◌^◌, ◌<◌, ◌∙◌, ◌&&◌, Bool, true, false, Option, None, Some, nat_le, length, map, refl, sym, ap, subst, arith, rules, if◌then◌else◌}
use Rattle.std.specs.Prelude.{◌==◌, codes}
use Rattle.std.specs.Fmt.{decimal, digit_glyph}
use Rattle.std.specs.Str.{bytes_eq}
use Rattle.std.specs.List.{AllByRecursion, slice_split}
use Rattle.std.specs.Option.{option_and_then}
use Rattle.std.proofs.lemmas.Bool.Decides.{nat_tests}
use Rattle.std.proofs.lemmas.Fmt.{decimal_nonempty}
use Rattle.std.proofs.lemmas.List.{length-append}
use Rattle.std.proofs.lemmas.Slice.Eq.{bytes_eq-Decides}
use Rattle.page_ids.specs.FrameWord.{word_text, flags_text, clock_of, fixes_of, is_resident, is_latched}
use Rattle.page_ids.specs.Spelling.{page_text, hex, after_commas, list_text, frame_text, ids_text, words_text}
use Rattle.page_ids.specs.declared.frame_word.Word.{Word}
use Rattle.page_ids.specs.declared.ids.PageId.{PageId}
use Rattle.trail.specs.Spelling.{arrived_text}
use Rattle.page_ids.specs.Typed.{FitsId, IsWord, AreBytes, ArePages, AreFrameWords}
use Rattle.page_ids.specs.Numerals.{number_of, cut_at}
use Rattle.page_ids.proofs.Numbers.{number_of-decimal}
use Rattle.page_ids.proofs.Cuts.{Lacks, cut_here, decimal_lacks}
use Rattle.trail.proofs.Visible.{word_parts}
use Rattle.trail.proofs.Cuts.{lacks-append, items_cut}

infixl 10 ◌>>=◌
abbrev pub ◌>>=◌ : {A B : Type 0} → Option A → (A → Option B) → Option B
o >>= f = option_and_then f o

pub read32 : (n : ℕ) → n < 2 ^ 32 → number_of (2 ^ 32) (decimal n) ≡ Some n
read32 n h = number_of-decimal (2 ^ 32) n (omega arith) h

pub read64 : (n : ℕ) → n < 2 ^ 64 → number_of (2 ^ 64) (decimal n) ≡ Some n
read64 n h = number_of-decimal (2 ^ 64) n h h

wide : (n : ℕ) → n < 2 ^ 32 → n < 2 ^ 64
wide n h = omega arith

-- a page id
abbrev pub page_of : List ℕ → Option PageId
page_of word = cut_at 58 word >>= λ r. number_of (2 ^ 32) r.0 >>= λ space. number_of (2 ^ 32) r.1 >>= λ page. Some (record { space = space; page = page })

pub page_read : (p : PageId) → FitsId p → page_of (page_text p) ≡ Some p
page_read p h =
    let cuts = cut_here 58 (decimal p.space) (decimal p.page) (decimal_lacks 58 p.space (inr (lit< tt)) (wide _ h.0)) in
    rw cuts (rw (read32 p.space h.0) (rw (read32 p.page h.1) refl))

-- bytes
abbrev pub hex_digit : ℕ → Option ℕ
hex_digit c = if nat_le 48 c && nat_le c 57 then Some (c - 48) else if nat_le 97 c && nat_le c 102 then Some (c - 87) else None

abbrev pub hex_of : List ℕ → Option (List ℕ)
hex_of [] = Some []
hex_of (a ∷ []) = None
hex_of (a ∷ b ∷ cs) = hex_digit a >>= λ x. hex_digit b >>= λ y. hex_of cs >>= λ (r : List ℕ). Some ((x * 16 + y) ∷ r)

glyph_read : (d : ℕ) → d < 16 → hex_digit (digit_glyph false d) ≡ Some d
glyph_read d small = grind (arith, nat_tests)

pub hex_read : (bs : List ℕ) → AreBytes bs → hex_of (hex bs) ≡ Some bs
hex_read [] h = refl
hex_read (b ∷ bs) h = let whole : b / 16 * 16 + b % 16 ≡ b = omega arith in
    rw (glyph_read (b / 16) (omega (arith, h.0))) (rw (glyph_read (b % 16) (omega arith)) (rw (hex_read bs h.1) (ap (λ k. Some (k ∷ bs)) whole)))

-- whether a page has arrived
abbrev pub arrived_of : List ℕ → Option Bool
arrived_of w = if bytes_eq w (codes "yes") then Some true else if bytes_eq w (codes "no") then Some false else None

pub arrived_read : (b : Bool) → arrived_of (arrived_text b) ≡ Some b
arrived_read true = refl
arrived_read false = refl

-- the word of a frame
abbrev pub flags_of : List ℕ → Option ℕ
flags_of w = if bytes_eq w (codes "-") then Some 0 else if bytes_eq w (codes "L") then Some 1 else if bytes_eq w (codes "R") then Some 2 else if bytes_eq w (codes "RL") then Some 3 else None

abbrev pub frame_word_of : List ℕ → Option Word
frame_word_of w = cut_at 47 w >>= λ r. number_of (2 ^ 64) r.0 >>= λ clock. cut_at 47 r.1 >>= λ q. flags_of q.0 >>= λ flags. number_of (2 ^ 64) q.1 >>= λ fixes. Some (record { bits = clock * 2 ^ 16 + flags * 2 ^ 14 + fixes })

abbrev flags_bits : Bool → Bool → ℕ
flags_bits false false = 0
flags_bits false true = 1
flags_bits true false = 2
flags_bits true true = 3

flags_read : (r l : Bool) → flags_of (flags_text r l) ≡ Some (flags_bits r l)
flags_read false false = refl
flags_read false true = refl
flags_read true false = refl
flags_read true true = refl

flags_lack : (r l : Bool) → Lacks 47 (flags_text r l)
flags_lack false false = search rules
flags_lack false true = search rules
flags_lack true false = search rules
flags_lack true true = search rules

bits_are : (n : ℕ) (r l : Bool) → (n / 2 ^ 15 % 2 == 1) ≡ r → (n / 2 ^ 14 % 2 == 1) ≡ l → n / 2 ^ 16 * 2 ^ 16 + flags_bits r l * 2 ^ 14 + n % 2 ^ 14 ≡ n
bits_are n false false a b = grind (arith, nat_tests)
bits_are n false true a b = grind (arith, nat_tests)
bits_are n true false a b = grind (arith, nat_tests)
bits_are n true true a b = grind (arith, nat_tests)

pub frame_word_read : (w : Word) → IsWord w → frame_word_of (word_text w) ≡ Some w
frame_word_read w h =
    let flags = flags_text (is_resident w) (is_latched w) in
    let outer = cut_here 47 (decimal (clock_of w)) (flags ++ 47 ∷ decimal (fixes_of w)) (decimal_lacks 47 (clock_of w) (inl (lit< tt)) (omega (arith, h))) in
    let inner = cut_here 47 flags (decimal (fixes_of w)) (flags_lack (is_resident w) (is_latched w)) in
    ap frame_word_of (word_parts w) ∙ rw outer (rw (read64 (clock_of w) (omega (arith, h))) (rw inner (rw (flags_read (is_resident w) (is_latched w)) (rw (read64 (fixes_of w) (omega arith))
    (ap (λ (n : ℕ). Some (record { bits = n })) (bits_are w.bits (is_resident w) (is_latched w) refl refl))))))

-- lists of items with commas between them; a dash for none
abbrev pub all_of : {A : Type 0} → (List ℕ → Option A) → List (List ℕ) → Option (List A)
all_of item [] = Some []
all_of item (w ∷ ws) = item w >>= λ x. all_of item ws >>= λ xs. Some (x ∷ xs)

abbrev pub list_of : {A : Type 0} → (List ℕ → Option A) → List ℕ → Option (List A)
list_of item w = if bytes_eq w (codes "-") then Some [] else all_of item (slice_split (λ c. c == 44) w)

all_read : {A : Type 0} → (text : A → List ℕ) (item : List ℕ → Option A) (IsItem : A → Type 0) → ((x : A) → IsItem x → item (text x) ≡ Some x) → (xs : List A) → AllByRecursion IsItem xs → all_of item (map text xs) ≡ Some xs
all_read text item IsItem reads [] h = refl
all_read text item IsItem reads (x ∷ xs) h = rw (reads x h.0) (rw (all_read text item IsItem reads xs h.1) refl)

no_dash : (w : List ℕ) → 1 < length w → bytes_eq w (codes "-") ≡ false
no_dash w long = cases (bytes_eq w (codes "-")) refl
  where
    cases : (b : Bool) → bytes_eq w (codes "-") ≡ b → bytes_eq w (codes "-") ≡ false
    cases true t = let same : w ≡ codes "-" = search (rules, bytes_eq-Decides w (codes "-"), t) in absurd (omega (arith, long, ap length same))
    cases false t = t

list_read : {A : Type 0} → (text : A → List ℕ) (item : List ℕ → Option A) (IsItem : A → Type 0) → ((x : A) → IsItem x → item (text x) ≡ Some x) → ((x : A) → IsItem x → Lacks 44 (text x)) → ((x : A) → IsItem x → 1 < length (text x))
    → (xs : List A) → AllByRecursion IsItem xs → list_of item (list_text text xs) ≡ Some xs
list_read text item IsItem reads lacks long [] h = refl
list_read text item IsItem reads lacks long (x ∷ xs) h =
    let no : bytes_eq (text x ++ after_commas text xs) (codes "-") ≡ false = no_dash (text x ++ after_commas text xs) (omega (arith, long x h.0, length-append (text x) (after_commas text xs))) in
    rw no (rw (items_cut text IsItem lacks x xs h.0 h.1) (all_read text item IsItem reads (x ∷ xs) h))

-- page ids
abbrev pub ids_of : List ℕ → Option (List PageId)
ids_of = list_of page_of

page_lacks : (p : PageId) → FitsId p → Lacks 44 (page_text p)
page_lacks p h = lacks-append 44 (decimal p.space) 58 (decimal p.page) (decimal_lacks 44 p.space (inl (lit< tt)) (wide _ h.0)) refl (decimal_lacks 44 p.page (inl (lit< tt)) (wide _ h.1))

page_long : (p : PageId) → FitsId p → 1 < length (page_text p)
page_long p h = omega (arith, decimal_nonempty p.space (wide _ h.0), length-append (decimal p.space) (58 ∷ decimal p.page))

pages : (ps : List PageId) → ArePages ps → AllByRecursion FitsId ps
pages [] h = tt
pages (p ∷ ps) h = (h.0, pages ps h.1)

pub ids_read : (ps : List PageId) → ArePages ps → ids_of (ids_text ps) ≡ Some ps
ids_read ps h = list_read page_text page_of FitsId page_read page_lacks page_long ps (pages ps h)

-- frames and their words
abbrev pub frame_of : List ℕ → Option (ℕ × Word)
frame_of w = cut_at 61 w >>= λ r. number_of (2 ^ 32) r.0 >>= λ frame. frame_word_of r.1 >>= λ word. Some (frame, word)

abbrev pub frames_of : List ℕ → Option (List (ℕ × Word))
frames_of = list_of frame_of

abbrev IsFrame : ℕ × Word → Type 0
IsFrame f = (f.0 < 2 ^ 32) × IsWord f.1

frame_read : (f : ℕ × Word) → IsFrame f → frame_of (frame_text f) ≡ Some f
frame_read f h =
    let cuts = cut_here 61 (decimal f.0) (word_text f.1) (decimal_lacks 61 f.0 (inr (lit< tt)) (wide _ h.0)) in
    rw cuts (rw (read32 f.0 h.0) (rw (frame_word_read f.1 h.1) refl))

flags_lack_comma : (r l : Bool) → Lacks 44 (flags_text r l)
flags_lack_comma false false = search rules
flags_lack_comma false true = search rules
flags_lack_comma true false = search rules
flags_lack_comma true true = search rules

frame_lacks : (f : ℕ × Word) → IsFrame f → Lacks 44 (frame_text f)
frame_lacks f h =
    lacks-append 44 (decimal f.0) 61 (word_text f.1) (decimal_lacks 44 f.0 (inl (lit< tt)) (wide _ h.0)) refl
    (subst (Lacks 44) (sym (word_parts f.1)) (lacks-append 44 (decimal (clock_of f.1)) 47 (flags_text (is_resident f.1) (is_latched f.1) ++ 47 ∷ decimal (fixes_of f.1)) (decimal_lacks 44 (clock_of f.1) (inl (lit< tt)) (omega (arith, h.1))) refl
    (lacks-append 44 (flags_text (is_resident f.1) (is_latched f.1)) 47 (decimal (fixes_of f.1)) (flags_lack_comma (is_resident f.1) (is_latched f.1)) refl (decimal_lacks 44 (fixes_of f.1) (inl (lit< tt)) (omega arith)))))

frame_long : (f : ℕ × Word) → IsFrame f → 1 < length (frame_text f)
frame_long f h = omega (arith, decimal_nonempty f.0 (wide _ h.0), length-append (decimal f.0) (61 ∷ word_text f.1))

frames : (fs : List (ℕ × Word)) → AreFrameWords fs → AllByRecursion IsFrame fs
frames [] h = tt
frames (f ∷ fs) h = (h.0, frames fs h.1)

pub frames_read : (fs : List (ℕ × Word)) → AreFrameWords fs → frames_of (words_text fs) ≡ Some fs
frames_read fs h = list_read frame_text frame_of IsFrame frame_read frame_lacks frame_long fs (frames fs h)

-- the next word, and what is left
abbrev pub reads : {A B : Type 0} → (List ℕ → Option A) → List (List ℕ) → (A → List (List ℕ) → Option B) → Option B
reads item [] more = None
reads item (w ∷ ws) more = item w >>= λ x. more x ws

-- no word is left
abbrev pub done : {A : Type 0} → A → List (List ℕ) → Option A
done x [] = Some x
done x (w ∷ ws) = None

abbrev pub u32 : List ℕ → Option ℕ
u32 = number_of (2 ^ 32)

abbrev pub u64 : List ℕ → Option ℕ
u64 = number_of (2 ^ 64)
