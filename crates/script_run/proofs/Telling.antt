-- No entry tells an end of the log behind the one that is known.
use Rattle.std.proofs.Common.{◌≤◌, ℕ, Bool, true, false, cond, List, [], ◌∷◌, Option, None, Some, IfSome, nat_le, arith}
use Rattle.trail.specs.declared.event.Cause.{Cause}
use Rattle.trail.specs.declared.event.Cause.TheVariants as cause
use Rattle.trail.specs.declared.event.Entry.{Entry}
use Rattle.trail.specs.declared.event.Event.{Event}
use Rattle.trail.specs.declared.event.Event.TheVariants as event
use Rattle.trail.specs.declared.event.Kind.{Kind}
use Rattle.trail.specs.declared.event.Kind.TheVariants as kind
use Rattle.redo_mark.specs.Logs.{Seen}
use Rattle.std.specs.Option.{option_map_or}
use Rattle.trail.specs.Trails.{Opening, entries, most, own}
use Rattle.trail.specs.Dirt.{log_end, log_end_after, spent_end, told_end, told_end_after}
use Rattle.trail.specs.Laws.{AreLawful}
use Rattle.trail.specs.Legal.{IsLegalKind}
use Rattle.desk.specs.Logged.{IsLogged, IsLoggedCause, IsLoggedKind}
use Rattle.script_run.specs.Runs.{EndsBehind, EndsCause, EndsKind}

cause_ends : (log : Seen) (why : Cause) → IsLoggedCause log why → EndsCause log.end why
cause_ends log (cause.PlacesSpent mark need) logged = tt
cause_ends log (cause.NoSuchPage pages) logged = tt
cause_ends log (cause.HoldFull held) logged = tt
cause_ends log (cause.Resident f) logged = tt
cause_ends log (cause.AllFixed words) logged = tt
cause_ends log (cause.RedoFault before after) logged = tt
cause_ends log (cause.DiskFault before after) logged = tt
cause_ends log (cause.BadPage bad) logged = tt
cause_ends log (cause.LogSpent at) logged = logged
cause_ends log (cause.WatchFull watches) logged = tt
cause_ends log cause.NoWatch logged = tt
cause_ends log cause.TooSmall logged = tt
cause_ends log (cause.TooLarge chunks max) logged = tt
cause_ends log (cause.Withdrawing from) logged = tt
cause_ends log (cause.Undone seen) logged = tt
cause_ends log (cause.NoFrame frames) logged = tt
cause_ends log (cause.Stale found) logged = tt
cause_ends log (cause.OtherPage found) logged = tt
cause_ends log (cause.Latched found) logged = tt
cause_ends log (cause.Busy found) logged = tt
cause_ends log cause.Unheld logged = tt

-- an entry names no end of the log behind the one that is known, nor did those before it
kind_ends : (o : Opening) (h : List Entry) (mine : List Event) (c n : ℕ) (log : Seen) (k : Kind) → IsLegalKind o h mine c n k → IsLoggedKind log k → log_end_after k (log_end h) ≤ log.end
    → EndsKind log.end k × (log_end h ≤ log.end)
kind_ends o h mine c n log (kind.Load p f) legal logged le = (tt, le)
kind_ends o h mine c n log (kind.Fix p f clock now) legal logged le = (tt, le)
kind_ends o h mine c n log (kind.Create p f from to now) legal logged le = (le, omega (arith, legal.behind, legal.record_is, le))
kind_ends o h mine c n log (kind.Put p at bytes from to) legal logged le = (le, omega (arith, legal.behind, legal.record_is, le))
kind_ends o h mine c n log (kind.Evict p f passed) legal logged le = (tt, le)
kind_ends o h mine c n log (kind.Write p lsn upto) legal logged le = (tt, le)
kind_ends o h mine c n log (kind.Move p from to) legal logged le = (tt, le)
kind_ends o h mine c n log (kind.Withdraw from) legal logged le = (tt, le)
kind_ends o h mine c n log (kind.Undo from) legal logged le = (tt, le)
kind_ends o h mine c n log (kind.Shrink chunks) legal logged le = (tt, le)
kind_ends o h mine c n log (kind.Grow chunks) legal logged le = (tt, le)
kind_ends o h mine c n log (kind.Resize bytes chunks) legal logged le = (tt, le)
kind_ends o h mine c n log (kind.Clean written skipped) legal logged le = (tt, le)
kind_ends o h mine c n log (kind.Check lsn) legal logged le = (logged, le)
kind_ends o h mine c n log (kind.WatchSet p) legal logged le = (tt, le)
kind_ends o h mine c n log (kind.WatchAt p f) legal logged le = (tt, le)
kind_ends o h mine c n log (kind.Occurred p arrived) legal logged le = (tt, le)
kind_ends o h mine c n log (kind.Unwatch p) legal logged le = (tt, le)
kind_ends o h mine c n log (kind.Dump pct ids) legal logged le = (tt, le)
kind_ends o h mine c n log (kind.Refused asked why) legal logged le = (cause_ends log why logged, le)

pub ends_behind : (sole : Option ℕ) (o : Opening) (past : List Event) (log : Seen) → AreLawful o sole past → IsLogged log (entries past) → log_end (entries past) ≤ log.end → EndsBehind log.end (entries past)
ends_behind sole o [] log good logged le = tt
ends_behind sole o (event.Entry e ∷ past) log good logged le =
    let here = kind_ends o (entries past) (own e.caller past) e.caller e.number log e.kind good.0.legal.kind logged.0 le in
    (here.0, ends_behind _ o past log good.1 logged.1 here.1)
ends_behind sole o (event.Receipt r ∷ past) log good logged le = ends_behind _ o past log good.1 logged le

most_below : (m n k : ℕ) → m ≤ k → n ≤ k → most m n ≤ k
most_below m n k first next = cases (nat_le m n)
  where
    cases : (b : Bool) → cond b n m ≤ k
    cases true = next
    cases false = first

spent_below : (end last : ℕ) (spent : Option ℕ) → IfSome spent (λ at. at ≤ end) → last ≤ end → option_map_or (λ at. most at last) spent last ≤ end
spent_below end last None is le = le
spent_below end last (Some at) is le = most_below at last end is le

told_after : (end last : ℕ) (k : Kind) → EndsKind end k → last ≤ end → told_end_after k last ≤ end
told_after end last (kind.Load p f) is le = le
told_after end last (kind.Fix p f clock now) is le = le
told_after end last (kind.Create p f from to now) is le = most_below to last end is le
told_after end last (kind.Put p at bytes from to) is le = most_below to last end is le
told_after end last (kind.Evict p f passed) is le = le
told_after end last (kind.Write p lsn upto) is le = le
told_after end last (kind.Move p from to) is le = le
told_after end last (kind.Withdraw from) is le = le
told_after end last (kind.Undo from) is le = le
told_after end last (kind.Shrink chunks) is le = le
told_after end last (kind.Grow chunks) is le = le
told_after end last (kind.Resize bytes chunks) is le = le
told_after end last (kind.Clean written skipped) is le = le
told_after end last (kind.Check lsn) is le = le
told_after end last (kind.WatchSet p) is le = le
told_after end last (kind.WatchAt p f) is le = le
told_after end last (kind.Occurred p has) is le = le
told_after end last (kind.Unwatch p) is le = le
told_after end last (kind.Dump pct ids) is le = le
told_after end last (kind.Refused asked why) is le = spent_below end last (spent_end why) is le

told_of_ends : (end : ℕ) (h : List Entry) → EndsBehind end h → told_end h ≤ end
told_of_ends end [] is = omega arith
told_of_ends end (e ∷ h) is = told_after end (told_end h) e.kind is.0 (told_of_ends end h is.1)

-- so every end that was told lies at or before the log's
pub told_below : (sole : Option ℕ) (o : Opening) (past : List Event) (log : Seen) → AreLawful o sole past → IsLogged log (entries past) → log_end (entries past) ≤ log.end → told_end (entries past) ≤ log.end
told_below sole o past log good logged le = told_of_ends log.end (entries past) (ends_behind _ o past log good logged le)
