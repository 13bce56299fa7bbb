-- Numbers that fit the types of their fields.
use Rattle.std.specs.Prelude.{ℕ, List, ◌<◌, ◌^◌}
use Rattle.std.specs.List.{AllByRecursion}
use Rattle.page_ids.specs.declared.ids.PageId.{PageId}
use Rattle.page_ids.specs.declared.frame_word.Word.{Word}

abbrev pub IsByte : ℕ → Type 0
IsByte n = n < 2 ^ 8

abbrev pub IsU32 : ℕ → Type 0
IsU32 n = n < 2 ^ 32

abbrev pub IsU64 : ℕ → Type 0
IsU64 n = n < 2 ^ 64

abbrev pub FitsId : PageId → Type 0
FitsId p = IsU32 p.space × IsU32 p.page

abbrev pub IsWord : Word → Type 0
IsWord w = IsU64 w.bits

-- lists of bytes, of pages, and of frames with their words
abbrev pub AreBytes : List ℕ → Type 0
AreBytes bytes = AllByRecursion IsByte bytes

abbrev pub ArePages : List PageId → Type 0
ArePages pages = AllByRecursion FitsId pages

abbrev pub AreFrameWords : List (ℕ × Word) → Type 0
AreFrameWords frames = AllByRecursion (λ (f : ℕ × Word). IsU32 f.0 × IsWord f.1) frames
