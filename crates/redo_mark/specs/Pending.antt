-- The records that are not durable, how they reach the device, and what the log keeps true of both.
use Rattle.std.specs.Prelude.{
  ℕ,
  List,
  [],
  ◌∷◌,
  ◌++◌,
  ◌≡◌,
  ◌≤◌,
  ◌+◌,
  ◌-◌,
  ◌^◌,
  length,
  take,
  slice_range,
  max,
  Option,
  Some,
  None,
  IfSome,
  vec_len,
  vec_capacity,
  Vec,
}
use Rattle.std.specs.List.{flat_map}
use Rattle.std.specs.declared.alloc.Global.{Global}
use Rattle.page_ids.specs.declared.limits.TheConstants.{LAST_LSN}
use Rattle.redo_mark.specs.Device.{Told}
use Rattle.redo_mark.specs.Records.{FitsRecord, head_of, AreRecords}
use Rattle.redo_mark.specs.declared.record.Change.{Change}

-- the bytes of records one behind the other
abbrev pub joined : List (Vec ℕ Global) → List ℕ
joined records = flat_map (λ v. v.items) records

-- the bytes between two offsets of what is kept, and behind them those that are not durable
abbrev pub bytes_of : ℕ → ℕ → Option Told → List (Vec ℕ Global) → Option (List ℕ)
bytes_of opened durable None pending = None
bytes_of opened durable (Some t) pending = Some (slice_range t.kept opened durable ++ joined pending)

-- between two offsets the device keeps what was written
pub record IsKeptBetween (opened durable : ℕ) (t : Told) : Type 0 where
  pub long : durable ≤ length t.kept
  pub same : slice_range t.written opened durable ≡ slice_range t.kept opened durable

-- nothing was written but between two offsets, and nothing synced
pub record OnlyWroteBetween (from to : ℕ) (old new : Told) : Type 0 where
  pub written : take from new.written ≡ take from old.written
  pub short : length new.written ≤ max (length old.written) to
  pub kept : new.kept ≡ old.kept

-- the records were written from this offset on, and synced
pub record IsMadeDurable (from : ℕ) (records : List ℕ) (old new : Told) : Type 0 where
  pub written : take (from + length records) new.written ≡ take from old.written ++ records
  pub short : length new.written ≤ max (length old.written) (from + length records)
  pub kept : new.kept ≡ new.written

-- what holds of a log's marks, its device, and the records that are not durable
pub record IsLog (first durable end opened reach : ℕ) (told : Option Told) (pending : List (Vec ℕ Global))
    : Type 0 where
  pub low : first + opened ≤ durable
  pub ends : end ≡ durable + length (joined pending)
  pub limit : end ≤ LAST_LSN
  pub few : length pending ≤ length (joined pending)
  pub reached : durable - first ≤ reach
  pub settled : IfSome told (IsKeptBetween opened (durable - first))
  pub whole : IfSome (bytes_of opened (durable - first) told pending) (AreRecords (first + opened))

-- the record of a change in a node of its own, with room for the LSN at its end
abbrev pub IsDraft : List (Vec ℕ Global) → Type 0
IsDraft node = (v : Vec ℕ Global) × (c : Change)
    × (node ≡ v ∷ []) × (vec_len v + 8 ≤ vec_capacity v) × FitsRecord c × (v.items ≡ head_of c)
