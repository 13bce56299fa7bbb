use Rattle.std.proofs.Common.{◌≡◌, ◌≤◌, ◌+◌, ℕ, true, List, [], Option, Some, Result, IfOk, inl, inr, ◌⊎◌, length, sym, subst, arith}
use Rattle.page_disk.specs.declared.shelf.FaultAt.{FaultAt}
use Rattle.page_ids.specs.declared.faults.OutOfMemory.{OutOfMemory}
use Rattle.trail.specs.declared.event.Entry.{Entry}
use Rattle.trail.specs.Dirt.{dirty}
use Rattle.desk.specs.declared.calls.CleanErr.{CleanErr}
use Rattle.desk.specs.Cleans.{IsCleanRefusal}
use Rattle.desk.specs.Moments.{moment_of}
use Rattle.frame_words.specs.Plain.{seen_of}
use Rattle.script_run.specs.Runs.{IsClosingClean}
use Rattle.script_run.proofs.Framing.{all_told}
use Rattle.script_run.proofs.Flushing.{runner, write_backs}
use Rattle.script_run.proofs.runner.close.Goals as goal
use Rattle.script_run.proofs.runner.close.Goals.{in-Ok, in-Err-OutOfMemory, in-Err-RedoFault, in-Err-DiskFault}

-- fewer pages are dirty than a clean may write
none_left : (written left dirt frames : ℕ) (new : List Entry) → written + left ≡ dirt → dirt ≤ frames → frames ≤ 8192 → (written ≡ 16384) ⊎ (dirty new ≡ []) → dirty new ≡ []
none_left written left dirt frames new all few less (inl full) = absurd (omega (arith, all, few, less, full))
none_left written left dirt frames new all few less (inr none) = none

pub clean_at-requires-clause-alone : goal.clean_at-requires-clause-alone
clean_at-requires-clause-alone g c κs within =
    let seen = g.D.PageDisk.seen in
    all_told seen c.args.desk.now.state c.args.frames.now [] c.requires.ready

pub returns-clause-closed : goal.returns-clause-closed
returns-clause-closed g c =
    let old = c.args.desk.now.state in
    let new = c.clean_at.new.self.state in
    let P : Result (Option FaultAt) OutOfMemory → Type 0 = λ r. IfOk r (λ fault. IsClosingClean old new fault) in
    let m = moment_of seen_of g.R.RedoDisk.seen c.args.desk.now c.args.frames.now c.args.redo.now in
    let n = moment_of seen_of g.R.RedoDisk.seen c.clean_at.new.self c.clean_at.new.frames c.clean_at.new.redo in
    let R : CleanErr → Type 0 = λ e. IsCleanRefusal g.D.PageDisk.seen m n runner 16384 true e in
    elim c.match-clean_at.branch [
      | in-Ok w ↦
          let ok = w.in-Ok.ensures.answers.cleaned in
          let k = w.in-Ok.field-0.written in
          let all = write_backs old.config.first runner k old.history ok.cleaned.mid c.dirty_pages_are_apart.ensures.front ok.cleaned.writes in
          subst P (sym w.result-is) (record {
            written = k;
            cleaned = ok.cleaned;
            most = ok.most;
            clean = λ fine. none_left k (length (dirty ok.cleaned.mid)) (length (dirty old.history)) old.config.frames new.history all c.clean_at.ensures.few.0 c.requires.frames ok.all;
          })
      | in-Err-OutOfMemory w ↦ subst P (sym w.result-is) tt
      | in-Err-RedoFault w ↦
          let is = subst R w.in-Err-RedoFault.field-0-is w.in-Err-RedoFault.ensures.answers in
          let C : FaultAt → Type 0 = λ f. IsClosingClean old new (Some f) in
          subst P (sym w.result-is) (subst C (sym w.fault_of.ensures) (record { written = is.1.written; cleaned = is.1.cleaned; most = is.1.most; clean = λ fine. absurd (cc) }))
      | in-Err-DiskFault w ↦
          let is = subst R w.in-Err-DiskFault.field-0-is w.in-Err-DiskFault.ensures.answers in
          let C : FaultAt → Type 0 = λ f. IsClosingClean old new (Some f) in
          subst P (sym w.result-is) (subst C (sym w.fault_of-in-Err-DiskFault.ensures) (record { written = is.1.written; cleaned = is.1.cleaned; most = is.1.most; clean = λ fine. absurd (cc) }))
    ]
