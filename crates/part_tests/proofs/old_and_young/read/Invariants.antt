use Rattle.std.proofs.Common.{◌≤◌}
use Rattle.part_tests.proofs.Lists.{AreBelow}
use Rattle.part_tests.proofs.old_and_young.read.Given as goal

abbrev pub invariant-loop-frame : goal.invariant-loop-frame
invariant-loop-frame l = record {
  room : l.frames ≤ l.lru.room;
  below : AreBelow l.frame l.lru;
}
