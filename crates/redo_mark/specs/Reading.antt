-- How a record is read from the front of bytes.
use Rattle.std.specs.Prelude.{ℕ, List, [], ◌∷◌, ◌++◌, ◌≡◌, ◌≢◌, ◌<◌, ◌≤◌, ◌+◌, ◌⊎◌, length, slice_index, slice_range}
use Rattle.std.specs.Int.{from_be_bytes, w16}
use Rattle.page_ids.specs.Layout.{u32_at, u64_at}
use Rattle.page_ids.specs.declared.limits.TheConstants.{RECORD_BYTES}
use Rattle.redo_mark.specs.Records.{kind_byte}
use Rattle.redo_mark.specs.declared.record.Change.{Change}
use Rattle.redo_mark.specs.declared.record.ChangeKind.{ChangeKind}
use Rattle.redo_mark.specs.declared.reading.ChangeErr.{ChangeErr}
use Rattle.redo_mark.specs.declared.reading.ChangeErr.TheVariants.{OutOfMemory, Short, Kind, Lsn}

-- the number in two bytes
abbrev pub u16_at : List ℕ → ℕ → ℕ
u16_at bytes at = from_be_bytes w16 (slice_index bytes at ∷ slice_index bytes (at + 1) ∷ [])

-- how many bytes the change has, as the record says
abbrev pub count_at : List ℕ → ℕ
count_at bytes = u16_at bytes 11

-- the fields at the front of the bytes are those of this change's record, which starts at this LSN
pub record IsRecord (bytes : List ℕ) (start : ℕ) (c : Change) : Type 0 where
  pub long : RECORD_BYTES + length c.bytes ≤ length bytes
  pub kind : slice_index bytes 0 ≡ kind_byte c.kind
  pub space : u32_at bytes 1 ≡ c.page.space
  pub page : u32_at bytes 5 ≡ c.page.page
  pub at : u16_at bytes 9 ≡ c.at
  pub count : count_at bytes ≡ length c.bytes
  pub body : slice_range bytes 13 (13 + length c.bytes) ≡ c.bytes
  pub end : u64_at bytes (13 + length c.bytes) ≡ start + RECORD_BYTES + length c.bytes

abbrev pub HasKind : List ℕ → Type 0
HasKind bytes = (slice_index bytes 0 ≡ 1) ⊎ (slice_index bytes 0 ≡ 2)

-- The first reason why no record that starts at this LSN stands at the front of the bytes, with what was found.
abbrev pub IsNoRecord : List ℕ → ℕ → ChangeErr → Type 0
IsNoRecord bytes start OutOfMemory = ⊥
IsNoRecord bytes start (Short need have) = (have ≡ length bytes) × (have < need)
    × ((need ≡ 13) ⊎ ((13 ≤ have) × HasKind bytes × (need ≡ RECORD_BYTES + count_at bytes)))
IsNoRecord bytes start (Kind found) = (13 ≤ length bytes) × (found ≡ slice_index bytes 0) × (found ≢ 1) × (found ≢ 2)
IsNoRecord bytes start (Lsn found want) = (RECORD_BYTES + count_at bytes ≤ length bytes) × HasKind bytes
    × (found ≡ u64_at bytes (13 + count_at bytes)) × (want ≡ start + RECORD_BYTES + count_at bytes) × (found ≢ want)

-- a record of this kind and count, which starts at this LSN, has its place and its end at the front of the bytes
pub record HasEnd (bytes : List ℕ) (start : ℕ) (kind : ChangeKind) (count : ℕ) : Type 0 where
  pub long : RECORD_BYTES + count ≤ length bytes
  pub kind_is : slice_index bytes 0 ≡ kind_byte kind
  pub count_is : count_at bytes ≡ count
  pub end : u64_at bytes (13 + count) ≡ start + RECORD_BYTES + count

-- the bytes begin with this piece
abbrev pub BeginsWith : List ℕ → List ℕ → Type 0
BeginsWith bytes piece = (rest : List ℕ) × (bytes ≡ piece ++ rest)
