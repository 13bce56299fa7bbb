use Rattle.std.proofs.Common.{◌≡◌}
use Rattle.log_tests.proofs.passes.work.Given as goal

abbrev pub invariant-loop : goal.invariant-loop
invariant-loop g l = l.pass.log ≡ l.fn.redo.log
