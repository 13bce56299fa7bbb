-- What a checkpoint leaves.
use Rattle.std.proofs.Common.{◌≡◌, ◌≤◌, ℕ, List, ◌∷◌, refl, ap, sym, subst}
use Rattle.page_disk.specs.Disks.{DiskSeen}
use Rattle.redo_mark.specs.Logs.{Seen}
use Rattle.trail.specs.declared.event.Entry.{Entry}
use Rattle.trail.specs.declared.event.Kind.TheVariants as kind
use Rattle.trail.specs.Dirt.{dirty, log_end}
use Rattle.frame_words.specs.Appends.{appended}
use Rattle.frame_words.specs.Seen.{FramesSeen}
use Rattle.desk.specs.Base.{Opened}
use Rattle.desk.specs.Behind.{IsBehind}
use Rattle.desk.specs.Checks.{IsChecked, redo_start}
use Rattle.desk.specs.Logged.{IsLogged}
use Rattle.desk.specs.State.{State}
use Rattle.desk.specs.Steps.{IsAppended, next_entry}
use Rattle.desk.specs.Tied.{AreTied}
use Rattle.desk.specs.declared.calls.Caller.{Caller}
use Rattle.desk.proofs.BehindWrites.{IsAnswer, desk_of, behind_rows, behind_answer}
use Rattle.desk.proofs.Changing.{desk_next, tied_on}

check_answer : (lsn : ℕ) → IsAnswer (kind.Check lsn)
check_answer lsn = record { homes = λ q b. refl; clocks = λ h f. refl; values = λ size q b. refl; writes = λ q b. refl; saves = λ q v b. refl; dirts = λ b. refl; fixed = refl; owes = refl }

-- the desk made room first
pub checked_is : {D : Type 0} (old mid new : State D) (by : Caller) (end lsn : ℕ) → mid ≡ old → lsn ≡ redo_start (dirty mid.history) end → IsAppended mid new by (kind.Check lsn) → new.disk ≡ mid.disk
    → IsChecked old new by end lsn
checked_is {D} old mid new by end lsn same is a disk = subst (λ (x : State D). IsChecked x new by end lsn) same (record { lsn_is = is; entry = a; disk = disk })

-- the log's end is behind the checkpoint, so the log still has what the history says
pub checked_logged : {D : Type 0} (log : Seen) (old new : State D) (by : Caller) (lsn : ℕ) → IsAppended old new by (kind.Check lsn) → lsn ≤ log.end → IsLogged log old.history → IsLogged log new.history
checked_logged log old new by lsn a early logged = subst (λ (h : List Entry). IsLogged log h) (sym a.history) (early, logged)

-- and ends at the same change
pub checked_end : {D : Type 0} (old new : State D) (by : Caller) (lsn : ℕ) → IsAppended old new by (kind.Check lsn) → log_end new.history ≡ log_end old.history
checked_end old new by lsn a = ap log_end a.history

module _ {D : Type 0} (seen : D → DiskSeen) where
  pub checked_tied : (s : FramesSeen) (old new : State D) (by : Caller) (lsn : ℕ) → IsAppended old new by (kind.Check lsn) → new.disk ≡ old.disk
      → AreTied seen s old → AreTied seen (appended s (next_entry old by (kind.Check lsn))) new
  checked_tied s old new by lsn a disk tied =
      let e : Entry = next_entry old by (kind.Check lsn) in
      subst (λ (x : State D). AreTied seen (appended s e) x) (sym (desk_next old new by (kind.Check lsn) a disk))
      (tied_on seen s old e old.disk (appended s e).turn (appended s e).opened (appended s e).found (λ p. refl) (λ f. refl) (λ p x is. is)
      (λ o b. behind_rows seen o _ s (appended s e) refl refl (behind_answer seen o old s e (check_answer lsn) b)) tied)

  pub checked_behind : (o : Opened) (s : FramesSeen) (old new : State D) (by : Caller) (lsn : ℕ) → IsAppended old new by (kind.Check lsn) → new.disk ≡ old.disk
      → IsBehind seen o old s → IsBehind seen o new (appended s (next_entry old by (kind.Check lsn)))
  checked_behind o s old new by lsn a disk b =
      let e : Entry = next_entry old by (kind.Check lsn) in
      subst (λ (x : State D). IsBehind seen o x (appended s e)) (sym (desk_next old new by (kind.Check lsn) a disk))
      (behind_rows seen o (desk_of old (e ∷ old.history) old.disk) s (appended s e) refl refl (behind_answer seen o old s e (check_answer lsn) b))
