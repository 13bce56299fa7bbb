-- The layout of a page on disk: InnoDB's FIL header, the body, the FIL trailer. Numbers are big-endian.
use Rattle.std.specs.Prelude.{ℕ, List, [], ◌∷◌, ◌≡◌, ◌⊎◌, ◌+◌, ◌-◌, ◌<◌, length, slice_index, EachIndex, if◌then◌else◌}
use Rattle.std.specs.Int.{from_be_bytes, w32, w64}
use Rattle.page_ids.specs.Content.{Content, is_stamped}
use Rattle.page_ids.specs.declared.ids.PageId.{PageId}

-- the numbers that stand at a place
abbrev pub u32_at : List ℕ → ℕ → ℕ
u32_at bytes at = from_be_bytes w32 (slice_index bytes at ∷ slice_index bytes (at + 1) ∷ slice_index bytes (at + 2) ∷ slice_index bytes (at + 3) ∷ [])

abbrev pub u64_at : List ℕ → ℕ → ℕ
u64_at bytes at = from_be_bytes w64 (slice_index bytes at ∷ slice_index bytes (at + 1) ∷ slice_index bytes (at + 2) ∷ slice_index bytes (at + 3)
    ∷ slice_index bytes (at + 4) ∷ slice_index bytes (at + 5) ∷ slice_index bytes (at + 6) ∷ slice_index bytes (at + 7) ∷ [])

abbrev pub page_number : List ℕ → ℕ
page_number bytes = u32_at bytes 4

abbrev pub page_space : List ℕ → ℕ
page_space bytes = u32_at bytes 34

-- the low half of the LSN, in the header and in the trailer
abbrev pub lsn_head : List ℕ → ℕ
lsn_head bytes = u32_at bytes 20

abbrev pub lsn_tail : List ℕ → ℕ
lsn_tail bytes = u32_at bytes (length bytes - 4)

abbrev pub IsBlank : List ℕ → Type 0
IsBlank bytes = EachIndex bytes (λ k. slice_index bytes k ≡ 0)

pub record IsWritten (p : PageId) (bytes : List ℕ) : Type 0 where
  pub number : page_number bytes ≡ p.page
  pub space : page_space bytes ≡ p.space
  pub whole : lsn_head bytes ≡ lsn_tail bytes

-- the bytes as an image keeps them
pub record IsContent (bytes : List ℕ) (content : Content) : Type 0 where
  pub lsn : content.lsn ≡ u64_at bytes 16
  pub size : length content.bytes ≡ length bytes
  pub kept : (k : ℕ) → k < length bytes → slice_index content.bytes k ≡ (if is_stamped (length bytes) k then 0 else slice_index bytes k)

-- the bytes are a page of this id; a page of zeros is one, whatever its id
abbrev pub IsSound : PageId → List ℕ → Type 0
IsSound p bytes = IsBlank bytes ⊎ IsWritten p bytes

-- the bytes are a page of this id with this content
pub record IsPage (p : PageId) (bytes : List ℕ) (content : Content) : Type 0 where
  pub sound : IsSound p bytes
  pub content_is : IsContent bytes content

-- both checksum fields, at the front and before the last four bytes, are 0xDEADBEEF, which stands where no checksum is made
pub record IsSummed (bytes : List ℕ) : Type 0 where
  pub head : u32_at bytes 0 ≡ 3735928559
  pub tail : u32_at bytes (length bytes - 8) ≡ 3735928559
