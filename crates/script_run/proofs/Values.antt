-- Homes, values and counts of faults as entries are appended.
use Rattle.std.proofs.Common.{◌≡◌, ℕ, List, [], ◌∷◌, ◌≤◌, Option, refl, arith}
use Rattle.page_ids.specs.declared.ids.PageId.{PageId}
use Rattle.page_ids.specs.declared.frame_word.Word.{Word}
use Rattle.trail.specs.declared.event.Entry.{Entry}
use Rattle.trail.specs.declared.event.Call.{Call}
use Rattle.trail.specs.declared.event.Cause.{Cause}
use Rattle.trail.specs.declared.event.Cause.TheVariants as cause
use Rattle.trail.specs.declared.event.Kind.{Kind}
use Rattle.trail.specs.declared.event.Kind.TheVariants as kind
use Rattle.trail.specs.History.{home_after}
use Rattle.script_run.specs.Openings.{Start, IsCauseWithin, IsKindWithin, AreFaultsWithin}

-- the entry leaves every home
pub record Leaves (k : Kind) : Type 0 where
  pub homes : (p : PageId) (before : Option ℕ) → home_after k p before ≡ before

pub fix_leaves : (p : PageId) (f clock now : ℕ) → Leaves (kind.Fix p f clock now)
fix_leaves p f clock now = record { homes = λ q b. refl }

pub put_leaves : (p : PageId) (at : ℕ) (bytes : List ℕ) (start end : ℕ) → Leaves (kind.Put p at bytes start end)
put_leaves p at bytes start end = record { homes = λ q b. refl }

pub write_leaves : (p : PageId) (lsn upto : ℕ) → Leaves (kind.Write p lsn upto)
write_leaves p lsn upto = record { homes = λ q b. refl }

pub clean_leaves : (written : ℕ) (skipped : List (ℕ × Word)) → Leaves (kind.Clean written skipped)
clean_leaves written skipped = record { homes = λ q b. refl }

pub check_leaves : (lsn : ℕ) → Leaves (kind.Check lsn)
check_leaves lsn = record { homes = λ q b. refl }

pub refused_leaves : (c : Call) (why : Cause) → Leaves (kind.Refused c why)
refused_leaves c why = record { homes = λ q b. refl }

-- the devices were handed out with no more faults than so
pub record IsEarlier (less start : Start) : Type 0 where
  pub disk : less.disk_faults ≤ start.disk_faults
  pub log : less.log_faults ≤ start.log_faults

cause_wider : (less start : Start) (disk log more_disk more_log : ℕ) (why : Cause) → IsEarlier less start → disk ≤ more_disk → log ≤ more_log → IsCauseWithin start disk log why → IsCauseWithin less more_disk more_log why
cause_wider less start disk log more_disk more_log (cause.DiskFault before after) e d l w = (omega (arith, e.disk, w.0), omega (arith, d, w.1))
cause_wider less start disk log more_disk more_log (cause.RedoFault before after) e d l w = (omega (arith, e.log, w.0), omega (arith, l, w.1))
cause_wider less start disk log more_disk more_log (cause.PlacesSpent mark need) e d l w = tt
cause_wider less start disk log more_disk more_log (cause.NoSuchPage pages) e d l w = tt
cause_wider less start disk log more_disk more_log (cause.HoldFull held) e d l w = tt
cause_wider less start disk log more_disk more_log (cause.Resident f) e d l w = tt
cause_wider less start disk log more_disk more_log (cause.AllFixed words) e d l w = tt
cause_wider less start disk log more_disk more_log (cause.BadPage bad) e d l w = tt
cause_wider less start disk log more_disk more_log (cause.LogSpent end) e d l w = tt
cause_wider less start disk log more_disk more_log (cause.WatchFull watches) e d l w = tt
cause_wider less start disk log more_disk more_log cause.NoWatch e d l w = tt
cause_wider less start disk log more_disk more_log cause.TooSmall e d l w = tt
cause_wider less start disk log more_disk more_log (cause.TooLarge chunks max) e d l w = tt
cause_wider less start disk log more_disk more_log (cause.Withdrawing from) e d l w = tt
cause_wider less start disk log more_disk more_log (cause.Undone seen) e d l w = tt
cause_wider less start disk log more_disk more_log (cause.NoFrame frames) e d l w = tt
cause_wider less start disk log more_disk more_log (cause.Stale found) e d l w = tt
cause_wider less start disk log more_disk more_log (cause.OtherPage found) e d l w = tt
cause_wider less start disk log more_disk more_log (cause.Latched found) e d l w = tt
cause_wider less start disk log more_disk more_log (cause.Busy found) e d l w = tt
cause_wider less start disk log more_disk more_log cause.Unheld e d l w = tt

kind_wider : (less start : Start) (disk log more_disk more_log : ℕ) (k : Kind) → IsEarlier less start → disk ≤ more_disk → log ≤ more_log → IsKindWithin start disk log k → IsKindWithin less more_disk more_log k
kind_wider less start disk log more_disk more_log (kind.Refused c why) e d l w = cause_wider less start disk log more_disk more_log why e d l w
kind_wider less start disk log more_disk more_log (kind.Load p f) e d l w = tt
kind_wider less start disk log more_disk more_log (kind.Fix p f clock now) e d l w = tt
kind_wider less start disk log more_disk more_log (kind.Create p f from end now) e d l w = tt
kind_wider less start disk log more_disk more_log (kind.Put p at bytes from end) e d l w = tt
kind_wider less start disk log more_disk more_log (kind.Evict p f passed) e d l w = tt
kind_wider less start disk log more_disk more_log (kind.Write p lsn upto) e d l w = tt
kind_wider less start disk log more_disk more_log (kind.Move p from to) e d l w = tt
kind_wider less start disk log more_disk more_log (kind.Withdraw from) e d l w = tt
kind_wider less start disk log more_disk more_log (kind.Undo from) e d l w = tt
kind_wider less start disk log more_disk more_log (kind.Shrink chunks) e d l w = tt
kind_wider less start disk log more_disk more_log (kind.Grow chunks) e d l w = tt
kind_wider less start disk log more_disk more_log (kind.Resize bytes chunks) e d l w = tt
kind_wider less start disk log more_disk more_log (kind.Clean written skipped) e d l w = tt
kind_wider less start disk log more_disk more_log (kind.Check lsn) e d l w = tt
kind_wider less start disk log more_disk more_log (kind.WatchSet p) e d l w = tt
kind_wider less start disk log more_disk more_log (kind.WatchAt p f) e d l w = tt
kind_wider less start disk log more_disk more_log (kind.Occurred p arrived) e d l w = tt
kind_wider less start disk log more_disk more_log (kind.Unwatch p) e d l w = tt
kind_wider less start disk log more_disk more_log (kind.Dump pct ids) e d l w = tt

-- counts that lie further apart
pub faults_wider : (less start : Start) (disk log more_disk more_log : ℕ) (h : List Entry) → IsEarlier less start → disk ≤ more_disk → log ≤ more_log → AreFaultsWithin start disk log h → AreFaultsWithin less more_disk more_log h
faults_wider less start disk log more_disk more_log [] e d l w = tt
faults_wider less start disk log more_disk more_log (x ∷ h) e d l w = (kind_wider less start disk log more_disk more_log x.kind e d l w.0, faults_wider less start disk log more_disk more_log h e d l w.1)

-- counts that rose since
pub faults_up : (start : Start) (disk log more_disk more_log : ℕ) (h : List Entry) → disk ≤ more_disk → log ≤ more_log → AreFaultsWithin start disk log h → AreFaultsWithin start more_disk more_log h
faults_up start disk log more_disk more_log h d l w = faults_wider start start disk log more_disk more_log h (record { disk = omega arith; log = omega arith }) d l w
