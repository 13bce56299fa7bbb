-- What a log's device holds, and what its calls do to it.
use Rattle.std.specs.Prelude.{ℕ, List, ◌≡◌, ◌≤◌, ◌+◌, ◌++◌, length, take, drop, Option, None, IfSome, MatchOption, IsSomeAnd}

-- the bytes that were written, and those that stood there at the last sync
pub record Told : Type 0 where
  pub written : List ℕ
  pub kept : List ℕ

-- what a log's device tells of itself: what was written and what of it is kept, where it tells; how many bytes it had at its opening, and surely has;
-- and how often it failed
pub record RedoSeen : Type 0 where
  pub told : Option Told
  pub opened : ℕ
  pub reach : ℕ
  pub faults : ℕ

-- a device that tells goes on to tell, and what it tells has made this step; one that doesn't tell never begins
abbrev pub Tells : Option Told → Option Told → (Told → Told → Type 0) → Type 0
Tells old new step = MatchOption old (new ≡ None) (λ before. IsSomeAnd new (step before))

-- the bytes with a piece put at this place
abbrev pub put_at : ℕ → List ℕ → List ℕ → List ℕ
put_at at piece bytes = take at bytes ++ piece ++ drop (at + length piece) bytes

-- a write: the piece stands at its place
pub record IsPieceWritten (at : ℕ) (piece : List ℕ) (old new : Told) : Type 0 where
  pub written : new.written ≡ put_at at piece old.written
  pub kept : new.kept ≡ old.kept

-- a write of so many bytes that failed: anything may stand in its range, and nothing else changed
pub record IsTorn (at count : ℕ) (old new : Told) : Type 0 where
  pub written : (left : List ℕ) × (length left ≤ count)
      × (new.written ≡ take at old.written ++ left ++ drop (at + count) old.written)
  pub whole : length old.written ≤ length new.written
  pub kept : new.kept ≡ old.kept

-- a sync: what was written is kept
pub record IsSynced (old new : Told) : Type 0 where
  pub written : new.written ≡ old.written
  pub kept : new.kept ≡ old.written

abbrev pub IsSame : Told → Told → Type 0
IsSame old new = new ≡ old

-- so many bytes the device surely has, and it is never shorter than at its opening
pub record IsSized (device : RedoSeen) : Type 0 where
  pub least : device.opened ≤ device.reach
  pub written : IfSome device.told (λ t. device.reach ≤ length t.written)
  pub kept : IfSome device.told (λ t. device.opened ≤ length t.kept)

-- what a device of this length holds at its opening: nothing was written to it
abbrev pub IsOpening : ℕ → Told → Type 0
IsOpening opened t = (t.written ≡ t.kept) × (length t.kept ≡ opened)

-- a device is as at its opening, where it tells
abbrev pub IsAsOpened : ℕ → Option Told → Type 0
IsAsOpened opened told = IfSome told (IsOpening opened)
