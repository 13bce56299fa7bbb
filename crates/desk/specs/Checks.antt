-- What a checkpoint answers.
use Rattle.std.specs.Prelude.{ℕ, List, [], ◌∷◌, ◌≡◌, ◌≤◌, Result, Ok, Err}
use Rattle.page_disk.specs.Disks.{DiskSeen}
use Rattle.redo_mark.specs.Logs.{Seen}
use Rattle.trail.specs.declared.event.Dirty.{Dirty}
use Rattle.trail.specs.declared.event.Kind.TheVariants as kind
use Rattle.trail.specs.Dirt.{dirty, log_end}
use Rattle.frame_words.specs.Appends.{appended}
use Rattle.frame_words.specs.Seen.{FramesSeen}
use Rattle.desk.specs.Base.{Opened}
use Rattle.desk.specs.Behind.{IsBehind}
use Rattle.desk.specs.Logged.{IsLogged}
use Rattle.desk.specs.Moments.{IsEmptyHanded}
use Rattle.desk.specs.State.{State}
use Rattle.desk.specs.Steps.{IsAppended, next_entry}
use Rattle.desk.specs.Tied.{AreTied}
use Rattle.desk.specs.declared.calls.CallErr.{CallErr}
use Rattle.desk.specs.declared.calls.Caller.{Caller}

-- where a redo would have to begin, with these pages dirty and the log's end here: at the oldest change that isn't on the disk, else at the end
abbrev pub redo_start : List Dirty → ℕ → ℕ
redo_start [] end = end
redo_start (d ∷ ds) end = d.oldest

-- that LSN was answered and appended; the disk was not used
pub record IsChecked {D : Type 0} (old new : State D) (by : Caller) (end lsn : ℕ) : Type 0 where
  pub lsn_is : lsn ≡ redo_start (dirty old.history) end
  pub entry : IsAppended old new by (kind.Check lsn)
  pub disk : new.disk ≡ old.disk

-- The LSN was answered: the log has of the new history what it had of the old one, and frames whose holder appends the entry too are tied to the desk as before.
pub record Checked {D : Type 0} (seen : D → DiskSeen) (old new : State D) (log : Seen) (by : Caller) (lsn : ℕ) : Type 0 where
  pub checked : IsChecked old new by log.end lsn
  pub logged : IsLogged log old.history → IsLogged log new.history
  pub known : log_end new.history ≤ log.end
  pub tied : (s : FramesSeen) → AreTied seen s old → AreTied seen (appended s (next_entry old by (kind.Check lsn))) new
  pub hands : IsEmptyHanded old → IsEmptyHanded new
  pub behind : (o : Opened) (s : FramesSeen) → IsBehind seen o old s → IsBehind seen o new (appended s (next_entry old by (kind.Check lsn)))

-- A checkpoint was answered, or nothing happened.
abbrev pub Checks : {D : Type 0} → (D → DiskSeen) → State D → State D → Seen → Caller → Result ℕ CallErr → Type 0
Checks seen old new log by (Ok lsn) = Checked seen old new log by lsn
Checks seen old new log by (Err e) = new ≡ old
