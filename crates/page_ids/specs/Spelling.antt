-- How ids, bytes and words are spelled.
use Rattle.std.specs.Prelude.{ℕ, List, [], ◌∷◌, ◌++◌, ◌/◌, ◌%◌, false, codes}
use Rattle.std.specs.Fmt.{decimal, digit_glyph}
use Rattle.page_ids.specs.FrameWord.{word_text}
use Rattle.page_ids.specs.declared.frame_word.Word.{Word}
use Rattle.page_ids.specs.declared.ids.PageId.{PageId}

-- space and page with a colon between them
abbrev pub page_text : PageId → List ℕ
page_text p = decimal p.space ++ 58 ∷ decimal p.page

-- two lower-case digits for each byte
abbrev pub hex : List ℕ → List ℕ
hex [] = []
hex (b ∷ bs) = digit_glyph false (b / 16) ∷ digit_glyph false (b % 16) ∷ hex bs

-- each item behind a comma
abbrev pub after_commas : {A : Type 0} → (A → List ℕ) → List A → List ℕ
after_commas item [] = []
after_commas item (x ∷ xs) = 44 ∷ item x ++ after_commas item xs

-- the items with commas between them, and a dash for none
abbrev pub list_text : {A : Type 0} → (A → List ℕ) → List A → List ℕ
list_text item [] = codes "-"
list_text item (x ∷ xs) = item x ++ after_commas item xs

abbrev pub ids_text : List PageId → List ℕ
ids_text ids = list_text page_text ids

-- a frame and its word, as 2=5/R/1
abbrev pub frame_text : ℕ × Word → List ℕ
frame_text (frame, word) = decimal frame ++ 61 ∷ word_text word

abbrev pub words_text : List (ℕ × Word) → List ℕ
words_text words = list_text frame_text words
