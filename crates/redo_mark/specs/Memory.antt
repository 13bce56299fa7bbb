-- The calls of a device in memory, and what a log device in memory keeps.
use Rattle.std.specs.Prelude.{ℕ, List, ◌≡◌, ◌+◌, ◌-◌, ◌/◌, ◌^◌, ◌⊎◌, min, length, take, Option, Some, None, Vec, Result, MatchResult, Contains}
use Rattle.std.specs.declared.alloc.Global.{Global}
use Rattle.redo_mark.specs.Device.{Told, put_at}

-- the numbers of the calls that fail, how many calls were made, and how often one failed and found no memory
pub record Counts : Type 0 where
  pub failing : List ℕ
  pub made : ℕ
  pub faults : ℕ
  pub wants : ℕ

-- one more, and at its end a count stands still
abbrev pub risen : ℕ → ℕ
risen count = min (count + 1) (2 ^ 64 - 1)

-- A call fails exactly where its number is listed or it found no memory, and counts that once; it counts a want where it found none.
abbrev pub IsExact : {T E : Type 0} → Counts → Counts → Result T E → Type 0
IsExact old new result = MatchResult result
    (λ _. (Contains old.failing (risen old.made) → ⊥) × (new.wants ≡ old.wants) × (new.faults ≡ old.faults))
    (λ _. ((Contains old.failing (risen old.made) × (new.wants ≡ old.wants)) ⊎ (new.wants ≡ risen old.wants))
    × (new.faults ≡ risen old.faults))

-- what a write that failed left of these bytes: the first half of the piece stands there, or it found no memory and wrote nothing
abbrev pub IsHalfPut : Counts → Counts → ℕ → List ℕ → List ℕ → List ℕ → Type 0
IsHalfPut old new at piece before after =
    (Contains old.failing (risen old.made) × (new.wants ≡ old.wants) × (after ≡ put_at at (take (length piece / 2) piece) before))
    ⊎ ((new.wants ≡ risen old.wants) × (after ≡ before))

-- one call more was made, and the list stays
pub record IsOneCall (old new : Counts) : Type 0 where
  pub failing : new.failing ≡ old.failing
  pub made : new.made ≡ risen old.made

-- the kept bytes, where they differ from the written ones, stand apart
abbrev pub kept_of : List ℕ → Option (Vec ℕ Global) → List ℕ
kept_of written None = written
kept_of written (Some kept) = kept.items

-- a device in memory always tells
abbrev pub told_of : List ℕ → Option (Vec ℕ Global) → Option Told
told_of written kept = Some (record { written = written; kept = kept_of written kept })
