-- What is known of a log: how far it is durable, where it ends, and its bytes from the end of its opening on.
use Rattle.std.specs.Prelude.{ℕ, List, [], ◌++◌, ◌≡◌, ◌≤◌, ◌+◌, ◌-◌, ◌^◌, length, take, Option, None, Some, IfSome, MatchOption, IsSomeAnd}
use Rattle.page_ids.specs.Faults.{Rose}
use Rattle.page_ids.specs.declared.limits.TheConstants.{LAST_LSN}
use Rattle.redo_mark.specs.Device.{Told, RedoSeen, Tells, IsOpening}
use Rattle.redo_mark.specs.Records.{AreRecords}
use Rattle.redo_mark.specs.declared.record.Span.{Span}

-- What a caller has seen of the log: as LSNs its first byte, its end at the opening, its durable mark and its end; the device's count
-- of faults; and its bytes from the opening's end on, which are known where the device tells.
pub record Seen : Type 0 where
  pub first : ℕ
  pub opened : ℕ
  pub durable : ℕ
  pub end : ℕ
  pub faults : ℕ
  pub bytes : Option (List ℕ)

-- nothing but more bytes behind those that were there
abbrev pub Grows : Option (List ℕ) → Option (List ℕ) → Type 0
Grows old new = MatchOption old (new ≡ None)
    (λ before. IsSomeAnd new (λ bytes. (more : List ℕ) × (bytes ≡ before ++ more)))

-- the same log at a later moment: no mark fell, and no byte changed
pub record IsLater (old new : Seen) : Type 0 where
  pub first : new.first ≡ old.first
  pub opened : new.opened ≡ old.opened
  pub durable : old.durable ≤ new.durable
  pub end : old.end ≤ new.end
  pub faults : old.faults ≤ new.faults
  pub bytes : Grows old.bytes new.bytes

-- the same log with this piece put at its end, and nothing else changed
pub record IsLonger (old new : Seen) (piece : List ℕ) : Type 0 where
  pub first : new.first ≡ old.first
  pub opened : new.opened ≡ old.opened
  pub durable : new.durable ≡ old.durable
  pub end : new.end ≡ old.end + length piece
  pub faults : new.faults ≡ old.faults
  pub bytes : MatchOption old.bytes (new.bytes ≡ None) (λ bytes. new.bytes ≡ Some (bytes ++ piece))

-- the durable mark lies in the log, and the log's bytes are as many as its marks say
pub record IsMeasured (seen : Seen) : Type 0 where
  pub low : seen.opened ≤ seen.durable
  pub high : seen.durable ≤ seen.end
  pub bytes : IfSome seen.bytes (λ bytes. seen.opened + length bytes ≡ seen.end)

-- this piece stands in the log at this LSN
pub record Holds (seen : Seen) (piece : List ℕ) (start : ℕ) : Type 0 where
  pub behind : seen.opened ≤ start
  pub within : start + length piece ≤ seen.end
  pub there : IfSome seen.bytes (λ bytes. (before after : List ℕ)
      × (bytes ≡ before ++ piece ++ after) × (seen.opened + length before ≡ start))

-- what the device keeps is what stood there at the opening, and behind it the log's bytes up to the durable mark
abbrev pub IsKept : Seen → Option Told → Type 0
IsKept seen told = IfSome told (λ t. IsSomeAnd seen.bytes (λ bytes. (front rest : List ℕ)
    × (t.kept ≡ front ++ take (seen.durable - seen.opened) bytes ++ rest)
    × (seen.first + length front ≡ seen.opened) × (seen.opened + length bytes ≡ seen.end)))

-- the log's bytes are whole records
abbrev pub IsWhole : Seen → Type 0
IsWhole seen = IfSome seen.bytes (AreRecords seen.opened)

-- where the log began on a device as at its opening, that keeps what stood there, the log's bytes up to the durable mark, and nothing else
abbrev pub IsAllKept : ℕ → Option Told → Seen → Option Told → Type 0
IsAllKept opened opening seen told = Tells opening told (λ s t. IsOpening opened s →
    IsSomeAnd seen.bytes (λ bytes. t.kept ≡ s.kept ++ take (seen.durable - seen.opened) bytes))

-- the device, whose first byte has the first LSN, keeps this piece at this LSN
abbrev pub IsKeptAt : ℕ → List ℕ → ℕ → Option Told → Type 0
IsKeptAt first piece start told = IfSome told (λ t. (before after : List ℕ)
    × (t.kept ≡ before ++ piece ++ after) × (first + length before ≡ start))

-- nothing was appended yet to a log whose first byte has this LSN, on a device of this length and count of faults
pub record IsFresh (seen : Seen) (lsn len count : ℕ) : Type 0 where
  pub first : seen.first ≡ lsn
  pub opened : seen.opened ≡ lsn + len
  pub durable : seen.durable ≡ seen.opened
  pub end : seen.end ≡ seen.opened
  pub faults : seen.faults ≡ count
  pub bytes : IfSome seen.bytes (λ bytes. bytes ≡ [])

-- where a record of so many bytes was put by a call before and after which the log ended at these LSNs
pub record IsSpan (before after count : ℕ) (s : Span) : Type 0 where
  pub start : before ≤ s.start
  pub end : s.end ≡ s.start + count
  pub within : s.end ≤ after
  pub limit : after ≤ LAST_LSN

-- the counts before and after a device's call that failed, within a call in which the count went from `old` to `new`
pub record IsFault (old new before after : ℕ) : Type 0 where
  pub first : old ≤ before
  pub rose : Rose before after
  pub last : after ≤ new

-- nothing but the log was written to a device since it held `s`
pub record IsGrown (opened durable end : ℕ) (s t : Told) : Type 0 where
  pub front : take opened t.written ≡ s.kept
  pub kept : take opened t.kept ≡ s.kept
  pub exact : length t.kept ≡ durable
  pub short : length t.written ≤ end

-- since this opening nothing but the log was written to its device
abbrev pub HasGrown : Seen → RedoSeen → Option Told → Type 0
HasGrown seen disk opening = Tells opening disk.told (λ s t. IsOpening disk.opened s
    → IsGrown disk.opened (seen.durable - seen.first) (seen.end - seen.first) s t)

-- and a step of the log leaves that so
abbrev pub StaysGrown : Seen → RedoSeen → Seen → RedoSeen → Type 0
StaysGrown old before new after = (opening : Option Told) → HasGrown old before opening → HasGrown new after opening

-- a log and its device
pub record LogState (R : Type 0) : Type 0 where
  pub seen : Seen
  pub disk : R

-- a log, its device, and what that told at the opening
pub record State (R : Type 0) : Type 0 where
  pub seen : Seen
  pub disk : R
  pub opening : Option Told
