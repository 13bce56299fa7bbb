use Rattle.std.proofs.Common.{List, ap}
use Rattle.trail.specs.Book.{book}
use Rattle.trail.specs.declared.event.Entry.{Entry}
use Rattle.desk_tests.proofs.trial.desk_of.Goals as goal

pub returns-in-Ok-clause-hands : goal.returns-in-Ok-clause-hands
returns-in-Ok-clause-hands c = ap (λ (h : List Entry). (book c.in-Ok.desk.state.config h).hands) c.in-Ok.ensures.fresh.history
