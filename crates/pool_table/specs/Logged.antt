-- What an entry says of the log, and how what is known of it grows.
use Rattle.std.specs.Prelude.{◌≡◌, ◌≤◌, ℕ, [], Option, None, Some, IsSomeAnd, Contains, ⊤}
use Rattle.redo_mark.specs.Records.{record_of}
use Rattle.redo_mark.specs.declared.record.ChangeKind.TheVariants as change
use Rattle.redo_log.specs.declared.view.Piece.{Piece}
use Rattle.redo_log.specs.Passes.{Known}
use Rattle.trail.specs.declared.event.Cause.TheVariants as cause
use Rattle.trail.specs.declared.event.Kind.{Kind}
use Rattle.trail.specs.declared.event.Kind.TheVariants as kind

-- the record of the change that an entry made, at its start
abbrev pub record_in : Kind → Option Piece
record_in (kind.Create p f start end now) = Some (record { start = start; bytes = record_of (record { page = p; kind = change.Create; at = 0; bytes = [] }) start })
record_in (kind.Put p at bytes start end) = Some (record { start = start; bytes = record_of (record { page = p; kind = change.Put; at = at; bytes = bytes }) start })
record_in _ = None

-- the LSN that an entry names as the end of the log, or as one that isn't behind it
abbrev pub log_end_in : Kind → Option ℕ
log_end_in (kind.Check lsn) = Some lsn
log_end_in (kind.Refused asked (cause.LogSpent end)) = Some end
log_end_in _ = None

-- a pass of the log knows as much as before, or more, of the same log
pub record HasGone (a b : Known) : Type 0 where
  pub log : b.log ≡ a.log
  pub end : a.end ≤ b.end
  pub durable : a.durable ≤ b.durable
  pub pieces : (p : Piece) → Contains a.pieces p → Contains b.pieces p

abbrev pub KnowsMore : Option Known → Option Known → Type 0
KnowsMore None new = ⊤
KnowsMore (Some a) new = IsSomeAnd new (HasGone a)
