use Rattle.std.proofs.Common.{◌≡◌, ◌+◌, ◌≤◌, ◌<◌, ◌∷◌, ◌++◌, ℕ, List, [], drop, take, length, arith, subst, sym, ap, ◌∙◌, get_or, refl}
use Rattle.std.specs.List.{AllByRecursion}
use Rattle.std.proofs.lemmas.List.{drop_more, drop_all, take_more, take_all, take-append-drop}
use Rattle.std.proofs.lemmas.List.Sums.{sum_by_push, sum_by-append, sum_by-cons}
use Rattle.script_text.specs.Within.{IsInRange}
use Rattle.script_text.specs.Grammar.{calls_of, calls_in}
use Rattle.script_text.specs.declared.script.Command.{Command}
use Rattle.page_ids.specs.declared.config.Config.{Config}
use Rattle.script_run.specs.Openings.{opened_of}
use Rattle.script_run.specs.Work.{Working, Progress, StandsBehind}
use Rattle.script_run.specs.Several.{AlongFew}
use Rattle.script_run.proofs.Growing.{on_some}
use Rattle.script_run.specs.Workers.{working}
use Rattle.script_run.proofs.Scanning.{along_none, few_more}
use Rattle.script_run.proofs.Progress.{progress_more}
use Rattle.script_run.proofs.worker.do_all.Goals as goal

-- the commands up to this one make no more calls than all
few_here : (commands : List Command) (i : ℕ) (here : Command) → i < length commands → here ≡ get_or commands i here → calls_in 1 (take i commands) + calls_of 1 here ≤ calls_in 1 commands
few_here commands i here inside is =
    let next : drop i commands ≡ here ∷ drop (i + 1) commands = drop_more commands i here inside ∙ ap (λ x. x ∷ drop (i + 1) commands) (sym is) in
    let all : calls_in 1 (take i commands ++ drop i commands) ≡ calls_in 1 (take i commands) + calls_in 1 (drop i commands) = sum_by-append (calls_of 1) (take i commands) (drop i commands) in
    let whole : calls_in 1 (take i commands ++ drop i commands) ≡ calls_in 1 commands = ap (calls_in 1) (take-append-drop i commands) in
    let rest : calls_in 1 (drop i commands) ≡ calls_of 1 here + calls_in 1 (drop (i + 1) commands) = ap (calls_in 1) next ∙ sum_by-cons (calls_of 1) here (drop (i + 1) commands) in
    omega (arith, all, whole, rest)

calls_more : (commands : List Command) (i : ℕ) (here : Command) → i < length commands → here ≡ get_or commands i here → calls_in 1 (take (i + 1) commands) ≡ calls_in 1 (take i commands) + calls_of 1 here
calls_more commands i here inside is =
    ap (calls_in 1) (take_more commands i here inside ∙ ap (λ x. take i commands ++ x ∷ []) (sym is)) ∙ sum_by_push (calls_of 1) (take i commands) here

pub loop-command-init : goal.loop-command-init
loop-command-init g c = record {
  along = along_none g.D.PageDisk.seen c.args.desk.now.state c.args.frames.now c.args.redo.now.seen (working c.args.pass.now);
  ranges = c.requires.ranges;
  done = λ o start past so stands. record { more = []; done = []; so_far = so; done_are = refl; held = refl; left = λ h tail goes t. t };
  opening = refl;
}

pub step-requires-clause-ready : goal.step-requires-clause-ready
step-requires-clause-ready g c κs within = c.loop-command.invariant.along.2.ready c.requires.ready

pub step-requires-clause-places : goal.step-requires-clause-places
step-requires-clause-places g c = let l = c.loop-command in
    omega (arith, c.requires.places, l.invariant.along.1, l.invariant.along.2.grown, ap (λ (x : Config). x.first) l.invariant.along.2.left.config, few_here c.args.commands.now l.command-index c.command-item.result (omega arith) c.command-item.is)

pub step-requires-clause-number : goal.step-requires-clause-number
step-requires-clause-number g c = let l = c.loop-command in
    omega (arith, c.requires.number, l.invariant.along.1, l.invariant.along.2.next, few_here c.args.commands.now l.command-index c.command-item.result (omega arith) c.command-item.is)

pub loop-command-preserved : goal.loop-command-preserved
loop-command-preserved g c =
    let seen = g.D.PageDisk.seen in
    let l = c.loop-command in
    let i = l.command-index in
    let commands = c.args.commands.now in
    let here : Command = c.command-item.result in
    let inside : i < length commands = omega arith in
    let next : drop i commands ≡ here ∷ drop (i + 1) commands = drop_more commands i here inside ∙ ap (λ x. x ∷ drop (i + 1) commands) (sym c.command-item.is) in
    let R : List Command → Type 0 = λ cs. AllByRecursion (IsInRange c.args.desk.now.state.config.page) cs in
    let w : Working = working c.args.pass.now in
    let v : Working = working c.step.new.pass in
    let A : ℕ → Type 0 = λ n. AlongFew seen n c.args.desk.now.state c.step.new.desk.state c.args.frames.now c.step.new.frames c.args.redo.now.seen c.step.new.redo.seen w v in
    let along = few_more seen (calls_in 1 (take i commands)) (calls_of 1 here) c.args.desk.now.state l.desk.state c.step.new.desk.state c.args.frames.now l.frames c.step.new.frames c.args.redo.now.seen l.redo.seen c.step.new.redo.seen
    w (working l.pass) v l.invariant.along c.in_ok-step.ensures.along in
    record {
      along = subst A (sym (calls_more commands i here inside c.command-item.is)) along;
      ranges = (subst R next l.invariant.ranges).1;
      done = λ o start past so stands.
          let P : List Command → Type 0 = λ cs. Progress seen o start l.desk.state l.redo.seen (working l.pass) past commands cs in
          let so_far = subst P next (l.invariant.done o start past so stands) in
          let here_behind : StandsBehind seen o start l.desk.state l.frames = on_some o.base _ _ (λ base is behind. l.invariant.along.2.behind (opened_of o start base) behind) stands in
          progress_more seen o start l.desk.state c.step.new.desk.state l.redo.seen c.step.new.redo.seen (working l.pass) v past commands here (drop (i + 1) commands) c.in_ok-step.ensures.along.2.pass so_far
          (c.in_ok-step.ensures.done o start (so_far.more ++ past) so_far.so_far here_behind);
      opening = c.step.ensures.opening ∙ l.invariant.opening;
    }

pub returns-clause-along : goal.returns-clause-along
returns-clause-along g c =
    let l = c.loop-command in
    let A : ℕ → Type 0 = λ n. AlongFew g.D.PageDisk.seen n c.args.desk.now.state l.desk.state c.args.frames.now l.frames c.args.redo.now.seen l.redo.seen (working c.args.pass.now) (working l.pass) in
    subst A (ap (calls_in 1) (take_all l.command-index c.args.commands.now (omega arith))) l.invariant.along

pub returns-clause-done : goal.returns-clause-done
returns-clause-done g c = λ o start past so stands.
    let l = c.loop-command in
    let P : List Command → Type 0 = λ cs. Progress g.D.PageDisk.seen o start l.desk.state l.redo.seen (working l.pass) past c.args.commands.now cs in
    subst P (drop_all l.command-index c.args.commands.now (omega arith)) (l.invariant.done o start past so stands)
