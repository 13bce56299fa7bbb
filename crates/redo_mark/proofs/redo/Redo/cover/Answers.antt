use Rattle.redo_mark.proofs.redo.Redo.cover.Goals as goal

pub returns-clause-fault : goal.returns-clause-fault
returns-clause-fault g c = rw (← c.self.view_is) c.cover.ensures.fault
