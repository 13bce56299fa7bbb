use Rattle.std.proofs.Common.{◌≡◌, ◌+◌, ◌-◌, ◌*◌, ℕ, true, refl, ap, sym, subst, arith}
use Rattle.std.specs.Prelude.{OnOk}
use Rattle.page_ids.specs.declared.ids.PageId.{PageId}
use Rattle.script_text.specs.Grammar.{calls_of}
use Rattle.script_text.specs.declared.script.Command.{Command}
use Rattle.script_text.specs.declared.script.Command.TheVariants as command
use Rattle.script_run.specs.Todo.{is_one_call}
use Rattle.script_text.specs.Within.{IsInRange}
use Rattle.script_run.specs.Several.{AlongFew, Done}
use Rattle.script_run.specs.Workers.{working}
use Rattle.script_run.proofs.Doing.{on_ok}
use Rattle.script_run.proofs.Progress.{done_one}
use Rattle.script_run.proofs.Scanning.{one_call}
use Rattle.script_run.proofs.worker.step.Goals as goal

-- a command that is no scan is one call
no_scan : (c : Command) → ((from : PageId) (last now : ℕ) → c ≡ command.Scan from last now → ⊥) → is_one_call c ≡ true
no_scan (command.Fix p now) other = refl
no_scan (command.Create p now) other = refl
no_scan (command.Read p at len) other = refl
no_scan (command.Put p at bytes) other = refl
no_scan (command.Unfix p) other = refl
no_scan (command.Scan from last now) other = absurd (other from last now refl)
no_scan (command.Clean bound) other = refl
no_scan command.Checkpoint other = refl

pub call-requires-clause-places : goal.call-requires-clause-places
call-requires-clause-places g c = omega (arith, c.requires.places, one_call c.args.command.now (no_scan c.args.command.now c.in_default.not-Scan))

pub call-requires-clause-number : goal.call-requires-clause-number
call-requires-clause-number g c = omega (arith, c.requires.number, one_call c.args.command.now (no_scan c.args.command.now c.in_default.not-Scan))

pub call-requires-clause-one : goal.call-requires-clause-one
call-requires-clause-one g c κs within = no_scan c.args.command.now c.in_default.not-Scan

pub returns-in_default-clause-along : goal.returns-in_default-clause-along
returns-in_default-clause-along g c =
    on_ok c.call.result _ _ (λ along. (1, omega (arith, one_call c.args.command.now (no_scan c.args.command.now c.in_default.not-Scan)), along)) c.call.ensures.along

pub returns-in_default-clause-done : goal.returns-in_default-clause-done
returns-in_default-clause-done g c =
    on_ok c.call.result _ _ (λ f o start past so stands.
    done_one g.D.PageDisk.seen o start c.call.new.desk.state c.call.new.redo.seen (working c.call.new.pass) past c.args.command.now (no_scan c.args.command.now c.in_default.not-Scan) (f o start past so stands)) c.call.ensures.done

pub scan-requires-clause-places : goal.scan-requires-clause-places
scan-requires-clause-places g c =
    let calls : calls_of 1 c.args.command.now ≡ 3 * (c.in-Scan.last - c.in-Scan.from.page + 1) = ap (calls_of 1) c.in-Scan.is in
    omega (arith, c.requires.places, calls)

pub scan-requires-clause-number : goal.scan-requires-clause-number
scan-requires-clause-number g c =
    let calls : calls_of 1 c.args.command.now ≡ 3 * (c.in-Scan.last - c.in-Scan.from.page + 1) = ap (calls_of 1) c.in-Scan.is in
    omega (arith, c.requires.number, calls)

pub scan-requires-clause-range : goal.scan-requires-clause-range
scan-requires-clause-range g c κs within =
    let R : Command → Type 0 = λ command. IsInRange c.args.desk.now.state.config.page command in
    subst R c.in-Scan.is c.requires.range

pub returns-in-Scan-clause-along : goal.returns-in-Scan-clause-along
returns-in-Scan-clause-along g c =
    let A : ℕ → Type 0 = λ n. OnOk c.scan.result (AlongFew g.D.PageDisk.seen n c.args.desk.now.state c.scan.new.desk.state c.args.frames.now c.scan.new.frames c.args.redo.now.seen c.scan.new.redo.seen
    (working c.args.pass.now) (working c.scan.new.self)) in
    subst A (sym (ap (calls_of 1) c.in-Scan.is)) c.scan.ensures.along

pub returns-in-Scan-clause-done : goal.returns-in-Scan-clause-done
returns-in-Scan-clause-done g c =
    on_ok c.scan.result _ _ (λ f o start past so stands.
    let D : Command → Type 0 = λ command. Done g.D.PageDisk.seen o start c.scan.new.desk.state c.scan.new.redo.seen (working c.scan.new.self) past command in
    subst D (sym c.in-Scan.is) (f o start past so stands)) c.scan.ensures.done
