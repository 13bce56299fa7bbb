use Rattle.std.specs.Prelude.{IfSome}
use Rattle.midpoint_lru.specs.View.{Has}
use Rattle.part_tests.proofs.Lists.{left}
use Rattle.part_tests.proofs.old_and_young.walked.Given as goal

abbrev pub invariant-loop-at : goal.invariant-loop-at
invariant-loop-at l = IfSome l.at (λ f. Has l.lru f)

abbrev pub decreases-loop-at : goal.decreases-loop-at
decreases-loop-at l = left l.lru l.at
