use Rattle.std.proofs.Common.{◌≡◌, ◌∙◌, ap, sym, subst}
use Rattle.trail.specs.Dirt.{dirty}
use Rattle.desk.specs.Checks.{redo_start}
use Rattle.desk.specs.State.{DeskWithRoom}
use Rattle.desk.proofs.desk.Desk.checkpoint.Goals as goal

pub returns-in-Some-clause-lsn : goal.returns-in-Some-clause-lsn
returns-in-Some-clause-lsn g c =
    let end = c.args.redo.now.seen.end in
    subst (λ (k : DeskWithRoom g.row.D.Denot). c.in-Some.first.oldest ≡ redo_start (dirty k.state.history) end) c.self.view_is (ap (λ ds. redo_start ds end) (sym c.in-Some.ensures.some.1))

pub returns-in-None-clause-lsn : goal.returns-in-None-clause-lsn
returns-in-None-clause-lsn g c =
    let end = c.args.redo.now.seen.end in
    subst (λ (k : DeskWithRoom g.row.D.Denot). c.end.result ≡ redo_start (dirty k.state.history) end) c.self.view_is (c.end.ensures ∙ ap (λ ds. redo_start ds end) (sym (c.oldest.ensures.none c.in-None.is)))
