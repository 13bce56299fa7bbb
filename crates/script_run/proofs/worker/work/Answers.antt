use Rattle.std.proofs.Common.{arith, ap, ◌∙◌}
use Rattle.std.proofs.lemmas.List.{length-reverse}
use Rattle.page_ids.specs.declared.config.Config.{Config}
use Rattle.script_run.specs.Workers.{working}
use Rattle.script_run.proofs.Doing.{on_ok}
use Rattle.script_run.proofs.Progress.{ending_start}
use Rattle.script_run.proofs.worker.work.Goals as goal

pub give_back_all-requires-clause-places : goal.give_back_all-requires-clause-places
give_back_all-requires-clause-places g c = let along = c.in_ok-do_all.ensures.along in
    omega (arith, c.requires.places, along.1, along.2.grown, ap (λ (x : Config). x.first) along.2.left.config)

pub give_back_all-requires-clause-number : goal.give_back_all-requires-clause-number
give_back_all-requires-clause-number g c = let along = c.in_ok-do_all.ensures.along in
    let few = (along.2.ready c.requires.ready).few in
    omega (arith, c.requires.number, along.1, along.2.next, few, length-reverse c.do_all.new.pass.fixed.items)

pub give_back_all-requires-clause-ready : goal.give_back_all-requires-clause-ready
give_back_all-requires-clause-ready g c κs within = c.in_ok-do_all.ensures.along.2.ready c.requires.ready

pub returns-clause-left : goal.returns-clause-left
returns-clause-left g c = on_ok c.give_back_all.result _ _ (λ _. c.in_ok-do_all.ensures.along.2.left) c.give_back_all.ensures.pass

pub returns-clause-grown : goal.returns-clause-grown
returns-clause-grown g c = let along = c.in_ok-do_all.ensures.along in on_ok c.give_back_all.result _ _ (λ _. omega (arith, along.1, along.2.grown)) c.give_back_all.ensures.pass

pub returns-clause-log : goal.returns-clause-log
returns-clause-log g c = on_ok c.give_back_all.result _ _ (λ _. c.in_ok-do_all.ensures.along.2.log) c.give_back_all.ensures.pass

pub returns-clause-known : goal.returns-clause-known
returns-clause-known g c = on_ok c.give_back_all.result _ _ (λ _. c.in_ok-do_all.ensures.along.2.known c.requires.known) c.give_back_all.ensures.pass

pub returns-clause-pass : goal.returns-clause-pass
returns-clause-pass g c = on_ok c.give_back_all.result _ _ (λ same. same ∙ c.in_ok-do_all.ensures.along.2.pass) c.give_back_all.ensures.pass

pub returns-clause-behind : goal.returns-clause-behind
returns-clause-behind g c = on_ok c.give_back_all.result _ _ (λ f o was. f o (c.in_ok-do_all.ensures.along.2.behind o was)) c.give_back_all.ensures.behind

pub returns-clause-done : goal.returns-clause-done
returns-clause-done g c =
    let seen = g.D.PageDisk.seen in
    on_ok c.give_back_all.result _ _ (λ f o start past so stands.
    f o start c.do_all.new.redo.seen past c.args.commands.now (ending_start seen o start c.do_all.new.desk.state c.do_all.new.redo.seen (working c.do_all.new.pass) past c.args.commands.now (c.in_ok-do_all.ensures.done o start past so stands))) c.give_back_all.ensures.done
