use Rattle.std.proofs.Common.{IfErr, subst}
use Rattle.desk.specs.Changes.{IsWriteFault}
use Rattle.desk.proofs.desk.Desk.sync.Goals as goal

pub returns-clause-fault : goal.returns-clause-fault
returns-clause-fault g c = λ first last.
    subst (λ x. IfErr c.sync_pages.result (λ e. IsWriteFault (g.D.PageDisk.seen x.state.disk).faults (g.D.PageDisk.seen c.sync_pages.new.disk).faults first last e)) c.self.view_is
    (c.sync_pages.ensures.fault first last)
