use Rattle.std.proofs.Common.{◌≡◌, ◌+◌, ◌≤◌, ℕ, List, [], Result, Ok, Err, OnOk, false, refl, ap, sym, subst, arith, reverse}
use Rattle.trail.specs.declared.event.Kind.{Kind}
use Rattle.trail.specs.declared.event.Kind.TheVariants as kind
use Rattle.trail.specs.declared.event.Event.{Event}
use Rattle.trail.specs.declared.event.Call.TheVariants as call
use Rattle.trail.specs.Calls.{held_after_kind}
use Rattle.trail.specs.Trails.{Opening}
use Rattle.desk.specs.declared.calls.CleanErr.{CleanErr}
use Rattle.desk.specs.Changes.{IsCleanedBy}
use Rattle.desk.specs.Cleans.{IsCleanRefusal}
use Rattle.desk.specs.Moments.{moment_of}
use Rattle.frame_words.specs.Plain.{seen_of}
use Rattle.script_text.specs.declared.script.Command.TheVariants as command
use Rattle.script_run.specs.Openings.{Start}
use Rattle.script_run.specs.Work.{Working, HasPlayed, Does, Along, with_answer}
use Rattle.script_run.specs.Workers.{working}
use Rattle.script_run.proofs.Growing.{me, Moves, room_of}
use Rattle.script_run.proofs.Framing.{all_told}
use Rattle.script_run.proofs.Along.{along_cleaned}
use Rattle.script_run.proofs.Cleaning.{does_clean, does_uncovered_clean, does_unwritten_clean}
use Rattle.script_run.proofs.Values.{Leaves, clean_leaves, refused_leaves}
use Rattle.script_run.proofs.pass.Pass.clean.Goals as goal
use Rattle.script_run.proofs.pass.Pass.clean.Goals.{in-Ok, in-Err-OutOfMemory, in-Err-RedoFault, in-Err-DiskFault}

pub clean_at-requires-clause-places : goal.clean_at-requires-clause-places
clean_at-requires-clause-places g c κs within = let few = c.dirty_pages_are_few.ensures c.args.desk.now.state.history in omega (arith, c.requires.places, few)

pub clean_at-requires-clause-alone : goal.clean_at-requires-clause-alone
clean_at-requires-clause-alone g c κs within =
    let seen = g.D.PageDisk.seen in
    all_told seen c.args.desk.now.state c.args.frames.now (reverse c.args.self.now.fixed.items) c.requires.ready

-- where the answer is Ok
ok_so : {T E : Type 0} (r : Result T E) (x : T) (Q : Type 0) → r ≡ Ok x → Q → OnOk r Q
ok_so {T} {E} r x Q is holds = let P : Result T E → Type 0 = λ r. OnOk r Q in subst P (sym is) holds

err_so : {T E : Type 0} (r : Result T E) (x : E) (Q : Type 0) → r ≡ Err x → OnOk r Q
err_so {T} {E} r x Q is = let P : Result T E → Type 0 = λ r. OnOk r Q in subst P (sym is) tt

pub returns-clause-along : goal.returns-clause-along
returns-clause-along g c =
    let seen = g.D.PageDisk.seen in
    let w : Working = working c.args.self.now in
    let old = c.args.desk.now.state in
    let new = c.clean_at.new.self.state in
    let was = c.args.redo.now.seen in
    let is = c.clean_at.new.redo.seen in
    let e = c.clean_at.ensures in
    let m = moment_of seen_of g.R.RedoDisk.seen c.args.desk.now c.args.frames.now c.args.redo.now in
    let n = moment_of seen_of g.R.RedoDisk.seen c.clean_at.new.self c.clean_at.new.frames c.clean_at.new.redo in
    let R : CleanErr → Type 0 = λ x. IsCleanRefusal seen m n (me w) c.args.bound false x in
    let A : Working → Type 0 = λ v. Along seen 1 old new c.args.frames.now c.clean_at.new.frames was is w v in
    let so : (n : ℕ) (k : Kind) → IsCleanedBy old new (me w) n k → n ≤ c.args.bound → Leaves k → held_after_kind w.next k w.fixed ≡ w.fixed → A (with_answer w k) =
    λ n k cleaned most leaves kept. along_cleaned seen old new c.args.frames.now c.clean_at.new.frames was is w n k cleaned (omega (arith, most, c.requires.range)) leaves kept e.left.unmoved e.keeps.desk
    e.left.behind (e.keeps.rest.tied, e.keeps.rest.hands) e.keeps.later (e.keeps.known c.requires.known) in
    elim c.match-clean_at.branch [
      | in-Ok x ↦
          let k = x.in-Ok.field-0.written in
          let ok = x.in-Ok.ensures.answers.cleaned in
          ok_so _ _ _ x.result-is (subst A (ap working (sym x.self-is)) (so k (kind.Clean k []) ok.cleaned ok.most (clean_leaves k []) refl))
      | in-Err-OutOfMemory x ↦ err_so _ _ _ x.result-is
      | in-Err-RedoFault x ↦
          let un = (subst R x.in-Err-RedoFault.field-0-is x.in-Err-RedoFault.ensures.answers).1 in
          ok_so _ _ _ x.result-is (subst A (ap working (sym x.self-is)) (so un.written _ un.cleaned un.most (refused_leaves (call.Clean c.args.bound) _) refl))
      | in-Err-DiskFault x ↦
          let un = (subst R x.in-Err-DiskFault.field-0-is x.in-Err-DiskFault.ensures.answers).1 in
          ok_so _ _ _ x.result-is (subst A (ap working (sym x.self-is)) (so un.written _ un.cleaned un.most (refused_leaves (call.Clean c.args.bound) _) refl))
    ]

pub returns-clause-done : goal.returns-clause-done
returns-clause-done g c =
    let seen = g.D.PageDisk.seen in
    let w : Working = working c.args.self.now in
    let old = c.args.desk.now.state in
    let new = c.clean_at.new.self.state in
    let was = c.args.redo.now.seen in
    let is = c.clean_at.new.redo.seen in
    let e = c.clean_at.ensures in
    let m = moment_of seen_of g.R.RedoDisk.seen c.args.desk.now c.args.frames.now c.args.redo.now in
    let n = moment_of seen_of g.R.RedoDisk.seen c.clean_at.new.self c.clean_at.new.frames c.clean_at.new.redo in
    let R : CleanErr → Type 0 = λ x. IsCleanRefusal seen m n (me w) c.args.bound false x in
    let W : Working → Type 0 = λ v. (o : Opening) (start : Start) (past : List Event) → HasPlayed seen o start old was w past [] → Does seen o start new is v past (command.Clean c.args.bound) in
    let moves : (o : Opening) (start : Start) (past : List Event) → HasPlayed seen o start old was w past [] → Moves seen old new was is =
    λ o start past so. record { left = e.keeps.desk; later = e.keeps.later.faults; logged = e.keeps.logged so.logged } in
    let front = c.dirty_pages_are_apart.ensures.front in
    elim c.match-clean_at.branch [
      | in-Ok x ↦
          let k = x.in-Ok.field-0.written in
          let ok = x.in-Ok.ensures.answers.cleaned in
          let made : W (with_answer w (kind.Clean k [])) =
          λ o start past so. does_clean seen o start old new was is w past so (moves o start past so) c.args.bound k front ok c.requires.range (room_of seen o start old was w past [] 16385 so (omega (arith, c.requires.places))) in
          ok_so _ _ _ x.result-is (subst W (ap working (sym x.self-is)) made)
      | in-Err-OutOfMemory x ↦ err_so _ _ _ x.result-is
      | in-Err-RedoFault x ↦
          let re = subst R x.in-Err-RedoFault.field-0-is x.in-Err-RedoFault.ensures.answers in
          let un = re.1 in
          let made : W (record w { next = w.next + 1 }) =
          λ o start past so. does_uncovered_clean seen o start old new was is w past so (moves o start past so) c.args.bound un.written _ _ front un.cleaned un.most re.0 c.requires.range (room_of seen o start old was w past [] 16385 so (omega (arith, c.requires.places))) in
          ok_so _ _ _ x.result-is (subst W (ap working (sym x.self-is)) made)
      | in-Err-DiskFault x ↦
          let re = subst R x.in-Err-DiskFault.field-0-is x.in-Err-DiskFault.ensures.answers in
          let un = re.1 in
          let made : W (record w { next = w.next + 1 }) =
          λ o start past so. does_unwritten_clean seen o start old new was is w past so (moves o start past so) c.args.bound un.written _ _ front un.cleaned un.most re.0 c.requires.range (room_of seen o start old was w past [] 16385 so (omega (arith, c.requires.places))) in
          ok_so _ _ _ x.result-is (subst W (ap working (sym x.self-is)) made)
    ]
