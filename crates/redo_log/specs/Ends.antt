-- The end of a log.
use Rattle.std.specs.Prelude.{◌≡◌, ℕ, ◌≤◌, ◌+◌, ◌-◌, ◌++◌, List, [], ◌∷◌, length, take, Option, All}
use Rattle.redo_mark.specs.Device.{Told, RedoSeen, Tells, IsOpening}
use Rattle.redo_mark.specs.Records.{AreRecords}
use Rattle.redo_mark.specs.Logs.{IsKeptAt}
use Rattle.redo_mark.specs.declared.redo.RedoEnd.{RedoEnd}
use Rattle.redo_log.specs.declared.view.Piece.{Piece}
use Rattle.redo_log.specs.declared.view.Story.{Story}
use Rattle.redo_log.specs.declared.view.View.{View}
use Rattle.redo_log.specs.Story.{size_of, StandAll}
use Rattle.redo_log.specs.Passes.{Known, LogOf}

-- this view knows all that the pass knows
pub record IsKnownBy (v : View) (p : Known) : Type 0 where
  pub end : p.end ≤ v.end
  pub durable : p.durable ≤ v.durable
  pub faults : p.faults ≤ v.faults
  pub pieces : (s : Story) → StandAll s v.pieces → StandAll s p.pieces

-- the shares of these passes, the bytes of their records, and the faults that they met
abbrev pub shares_of : List Known → ℕ
shares_of [] = 0
shares_of (p ∷ ps) = p.share + shares_of ps

abbrev pub sizes_of : List Known → ℕ
sizes_of [] = 0
sizes_of (p ∷ ps) = size_of p.pieces + sizes_of ps

abbrev pub mets_of : List Known → ℕ
mets_of [] = 0
mets_of (p ∷ ps) = p.met + mets_of ps

-- a record that ends by this mark is kept at its start
abbrev pub IsPieceKept : ℕ → ℕ → Option Told → Piece → Type 0
IsPieceKept first mark told p = p.start + length p.bytes ≤ mark → IsKeptAt first p.bytes p.start told

-- what a pass knows is so at the log's end
pub record IsInEnd (first : ℕ) (disk : RedoSeen) (lsn mark : ℕ) (p : Known) : Type 0 where
  pub end : p.end ≤ lsn
  pub durable : p.durable ≤ mark
  pub faults : p.faults ≤ disk.faults
  pub pieces : All (IsPieceKept first mark disk.told) p.pieces

module _ {R : Type 0} (seen : R → RedoSeen) where
  -- these passes are all that the log had: each byte behind its opening is of a record of theirs, and each fault was met by one of them
  pub record AreAllPasses (log : LogOf R) (left : RedoEnd R) (passes : List Known) : Type 0 where
    pub bytes : left.end ≡ log.first + (seen log.opening).opened + sizes_of passes
    pub faults : (seen left.disk).faults ≡ mets_of passes

  -- the end of this log: a device that held nothing but its opening keeps that, whole records up to the durable mark, and no more
  pub record IsEndOf (log : LogOf R) (left : RedoEnd R) : Type 0 where
    pub durable : log.first + (seen log.opening).opened ≤ left.durable
    pub end : left.durable ≤ left.end
    pub kept : Tells (seen log.opening).told (seen left.disk).told (λ s t. IsOpening (seen log.opening).opened s →
        (bytes : List ℕ) × AreRecords (log.first + (seen log.opening).opened) bytes
        × (log.first + (seen log.opening).opened + length bytes ≡ left.end)
        × (t.kept ≡ s.kept ++ take (left.durable - (log.first + (seen log.opening).opened)) bytes))
