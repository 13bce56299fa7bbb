-- A record of the log: kind, space, page, place, count, bytes, and the LSN at which it ends. Numbers are big-endian.
use Rattle.std.specs.Prelude.{ℕ, List, [], ◌∷◌, ◌++◌, ◌≡◌, ◌<◌, ◌+◌, ◌^◌, length}
use Rattle.std.specs.Int.{w16, w32, w64, to_be_bytes}
use Rattle.page_ids.specs.declared.limits.TheConstants.{RECORD_BYTES}
use Rattle.redo_mark.specs.declared.record.ChangeKind.{ChangeKind}
use Rattle.redo_mark.specs.declared.record.ChangeKind.TheVariants.{Put, Create}
use Rattle.redo_mark.specs.declared.record.Change.{Change}

-- the numbers of a change fit the fields of a record
pub record FitsRecord (c : Change) : Type 0 where
  pub space : c.page.space < 2 ^ 32
  pub page : c.page.page < 2 ^ 32
  pub at : c.at < 2 ^ 16
  pub count : length c.bytes < 2 ^ 16

-- a change whose place and count fit their fields; a create has neither place nor bytes
pub record IsLoggable (c : Change) : Type 0 where
  pub at : c.at < 2 ^ 16
  pub count : length c.bytes < 2 ^ 16
  pub create : c.kind ≡ Create → (c.at ≡ 0) × (c.bytes ≡ [])

abbrev pub kind_byte : ChangeKind → ℕ
kind_byte Put = 1
kind_byte Create = 2

-- all of a record but the LSN at its end
abbrev pub head_of : Change → List ℕ
head_of c = kind_byte c.kind ∷ to_be_bytes w32 c.page.space ++ to_be_bytes w32 c.page.page
    ++ to_be_bytes w16 c.at ++ to_be_bytes w16 (length c.bytes) ++ c.bytes

-- a record that starts at this LSN: its end LSN stands behind the rest
abbrev pub sealed : List ℕ → ℕ → List ℕ
sealed head start = head ++ to_be_bytes w64 (start + length head + 8)

-- the record of a change that starts at this LSN
abbrev pub record_of : Change → ℕ → List ℕ
record_of c start = sealed (head_of c) start

-- the records of these changes, one behind the other from this LSN on
abbrev pub records_of : List Change → ℕ → List ℕ
records_of [] start = []
records_of (c ∷ cs) start = record_of c start ++ records_of cs (start + RECORD_BYTES + length c.bytes)

abbrev pub AllFitRecords : List Change → Type 0
AllFitRecords [] = Unit {0}
AllFitRecords (c ∷ cs) = FitsRecord c × AllFitRecords cs

-- from this LSN on the bytes are whole records, and nothing else
abbrev pub AreRecords : ℕ → List ℕ → Type 0
AreRecords start bytes = (changes : List Change) × AllFitRecords changes × (bytes ≡ records_of changes start)
