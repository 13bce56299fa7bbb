-- What the log has of a history.
use Rattle.std.specs.Prelude.{ℕ, List, [], ◌∷◌, ◌++◌, ◌≡◌, ◌≤◌, ◌⊎◌, ⊤}
use Rattle.page_ids.specs.declared.ids.PageId.{PageId}
use Rattle.redo_mark.specs.Logs.{Seen, Holds}
use Rattle.redo_mark.specs.Records.{record_of}
use Rattle.redo_mark.specs.declared.record.Change.{Change}
use Rattle.redo_mark.specs.declared.record.ChangeKind.TheVariants.{Put, Create}
use Rattle.trail.specs.declared.event.Cause.{Cause}
use Rattle.trail.specs.declared.event.Cause.TheVariants as cause
use Rattle.trail.specs.declared.event.Kind.{Kind}
use Rattle.trail.specs.declared.event.Kind.TheVariants as kind
use Rattle.trail.specs.declared.event.Entry.{Entry}

-- the changes whose records are logged
abbrev pub put_change : PageId → ℕ → List ℕ → Change
put_change p at bytes = record { page = p; kind = Put; at = at; bytes = bytes }

abbrev pub create_change : PageId → Change
create_change p = record { page = p; kind = Create; at = 0; bytes = [] }

-- a refusal names no end of the log behind the one that is known
abbrev pub IsLoggedCause : Seen → Cause → Type 0
IsLoggedCause log (cause.PlacesSpent mark need) = ⊤
IsLoggedCause log (cause.NoSuchPage pages) = ⊤
IsLoggedCause log (cause.HoldFull held) = ⊤
IsLoggedCause log (cause.Resident f) = ⊤
IsLoggedCause log (cause.AllFixed seen) = ⊤
IsLoggedCause log (cause.RedoFault before after) = ⊤
IsLoggedCause log (cause.DiskFault before after) = ⊤
IsLoggedCause log (cause.BadPage bad) = ⊤
IsLoggedCause log (cause.LogSpent end) = end ≤ log.end
IsLoggedCause log (cause.WatchFull watches) = ⊤
IsLoggedCause log cause.NoWatch = ⊤
IsLoggedCause log cause.TooSmall = ⊤
IsLoggedCause log (cause.TooLarge chunks max) = ⊤
IsLoggedCause log (cause.Withdrawing from) = ⊤
IsLoggedCause log (cause.Undone seen) = ⊤
IsLoggedCause log (cause.NoFrame frames) = ⊤
IsLoggedCause log (cause.Stale found) = ⊤
IsLoggedCause log (cause.OtherPage found) = ⊤
IsLoggedCause log (cause.Latched found) = ⊤
IsLoggedCause log (cause.Busy found) = ⊤
IsLoggedCause log cause.Unheld = ⊤

-- The record of a change stands at its start LSN, and the log was durable up to where a write says.
abbrev pub IsLoggedKind : Seen → Kind → Type 0
IsLoggedKind log (kind.Load p f) = ⊤
IsLoggedKind log (kind.Fix p f clock now) = ⊤
IsLoggedKind log (kind.Create p f start end now) = Holds log (record_of (create_change p) start) start
IsLoggedKind log (kind.Put p at bytes start end) = Holds log (record_of (put_change p at bytes) start) start
IsLoggedKind log (kind.Evict p f passed) = ⊤
IsLoggedKind log (kind.Write p lsn upto) = upto ≤ log.durable
IsLoggedKind log (kind.Move p from to) = ⊤
IsLoggedKind log (kind.Withdraw from) = ⊤
IsLoggedKind log (kind.Undo from) = ⊤
IsLoggedKind log (kind.Shrink chunks) = ⊤
IsLoggedKind log (kind.Grow chunks) = ⊤
IsLoggedKind log (kind.Resize bytes chunks) = ⊤
IsLoggedKind log (kind.Clean written skipped) = ⊤
IsLoggedKind log (kind.Check lsn) = lsn ≤ log.end
IsLoggedKind log (kind.WatchSet p) = ⊤
IsLoggedKind log (kind.WatchAt p f) = ⊤
IsLoggedKind log (kind.Occurred p arrived) = ⊤
IsLoggedKind log (kind.Unwatch p) = ⊤
IsLoggedKind log (kind.Dump pct ids) = ⊤
IsLoggedKind log (kind.Refused asked why) = IsLoggedCause log why

abbrev pub IsLogged : Seen → List Entry → Type 0
IsLogged log [] = ⊤
IsLogged log (e ∷ h) = IsLoggedKind log e.kind × IsLogged log h

-- the durable mark behind a call: as it stood, or where the log ended
abbrev pub IsMarkBehind : Seen → ℕ → Type 0
IsMarkBehind old mark = (mark ≡ old.durable) ⊎ (mark ≡ old.end)

-- a write says this mark: the log was durable just up to there
abbrev pub IsUpTo : ℕ → Kind → Type 0
IsUpTo mark (kind.Load p f) = ⊤
IsUpTo mark (kind.Fix p f clock now) = ⊤
IsUpTo mark (kind.Create p f start end now) = ⊤
IsUpTo mark (kind.Put p at bytes start end) = ⊤
IsUpTo mark (kind.Evict p f passed) = ⊤
IsUpTo mark (kind.Write p lsn upto) = upto ≡ mark
IsUpTo mark (kind.Move p from to) = ⊤
IsUpTo mark (kind.Withdraw from) = ⊤
IsUpTo mark (kind.Undo from) = ⊤
IsUpTo mark (kind.Shrink chunks) = ⊤
IsUpTo mark (kind.Grow chunks) = ⊤
IsUpTo mark (kind.Resize bytes chunks) = ⊤
IsUpTo mark (kind.Clean written skipped) = ⊤
IsUpTo mark (kind.Check lsn) = ⊤
IsUpTo mark (kind.WatchSet p) = ⊤
IsUpTo mark (kind.WatchAt p f) = ⊤
IsUpTo mark (kind.Occurred p arrived) = ⊤
IsUpTo mark (kind.Unwatch p) = ⊤
IsUpTo mark (kind.Dump pct ids) = ⊤
IsUpTo mark (kind.Refused asked why) = ⊤

abbrev pub AreAllUpTo : ℕ → List Entry → Type 0
AreAllUpTo mark [] = ⊤
AreAllUpTo mark (e ∷ h) = IsUpTo mark e.kind × AreAllUpTo mark h

-- each write among the entries that came says this mark
pub record AreUpTo (mark : ℕ) (old new : List Entry) : Type 0 where
  pub came : List Entry
  pub split : new ≡ came ++ old
  pub each : AreAllUpTo mark came
