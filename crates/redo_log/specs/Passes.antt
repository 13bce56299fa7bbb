-- What contracts see of a log and of its passes.
use Rattle.std.specs.Prelude.{◌≡◌, ℕ, ◌+◌, ◌-◌, ◌≤◌, ◌<◌, ◌++◌, max, false, List, []}
use Rattle.page_ids.specs.Faults.{Rose}
use Rattle.atomic_table.specs.Seated.{TableId}
use Rattle.redo_log.specs.declared.view.TheConstants.{SHARES}
use Rattle.redo_log.specs.declared.view.Piece.{Piece}
use Rattle.redo_log.specs.declared.view.View.{View}

-- what a pass knows: of which log it is; that log's end, durable mark and count of faults as it last saw them; how many of these faults
-- are its own, which are those that its calls met, and of the first pass those before the opening too; its records; its share in the
-- passes of the log; and how many shares it knows to be lost
pub record Known : Type 0 where
  pub log : TableId
  pub end : ℕ
  pub durable : ℕ
  pub faults : ℕ
  pub met : ℕ
  pub pieces : List Piece
  pub share : ℕ
  pub lost : ℕ

abbrev pub known_of : TableId → View → Known
known_of log v = record { log = log; end = v.end; durable = v.durable; faults = v.faults; met = v.met; pieces = v.pieces; share = v.share; lost = v.lost }

-- the pass goes on: it is of the same log with the same share, and nothing that it counts fell
pub record GoesOn (old new : Known) : Type 0 where
  pub log : new.log ≡ old.log
  pub share : (new.share ≡ old.share) × (new.lost ≡ old.lost)
  pub end : old.end ≤ new.end
  pub durable : old.durable ≤ new.durable
  pub faults : old.faults ≤ new.faults
  pub met : old.met ≤ new.met

-- a device's call in this call of the pass failed, at which the count of faults went from `before` to `after`
pub record MetFault (old new : Known) (before after : ℕ) : Type 0 where
  pub first : old.faults ≤ before
  pub rose : Rose before after
  pub last : after ≡ new.faults
  pub met : old.met + (after - before) ≤ new.met

-- a log: which it is, the LSN of its device's first byte, and that device as it was at the start
pub record LogOf (R : Type 0) : Type 0 where
  pub log : TableId
  pub first : ℕ
  pub opening : R

-- that a log is durable up to an LSN
pub record CoveredOf : Type 0 where
  pub log : TableId
  pub upto : ℕ

-- a pass with what another knows
abbrev pub both : Known → Known → Known
both a b = record a {
  end = max a.end b.end;
  durable = max a.durable b.durable;
  faults = max a.faults b.faults;
  met = a.met + b.met;
  pieces = a.pieces ++ b.pieces;
  share = a.share + b.share;
  lost = max a.lost b.lost;
}

-- the view of a pass between its calls
pub record IsIdle (v : View) : Type 0 where
  pub keeps : v.keeps ≡ false
  pub share : 0 < v.share + v.lost

-- the view of one who was shown that its log is durable up to this LSN
pub record IsShown (v : View) (upto : ℕ) : Type 0 where
  pub keeps : v.keeps ≡ false
  pub durable : upto ≤ v.durable
  pub pieces : v.pieces ≡ []
  pub met : v.met ≡ 0
  pub share : (v.share ≡ 0) × (v.lost ≡ 0)

-- a pass of this log that knows its end, all durable, this count of faults, all of them its own, and no record, and has all shares
pub record IsFirstPass (of : TableId) (lsn count : ℕ) (p : Known) : Type 0 where
  pub log : p.log ≡ of
  pub end : p.end ≡ lsn
  pub durable : p.durable ≡ lsn
  pub faults : p.faults ≡ count
  pub met : p.met ≡ count
  pub pieces : p.pieces ≡ []
  pub share : (p.share ≡ SHARES) × (p.lost ≡ 0)
