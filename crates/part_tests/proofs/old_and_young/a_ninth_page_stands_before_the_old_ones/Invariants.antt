use Rattle.midpoint_lru.specs.View.{Has}
use Rattle.part_tests.proofs.old_and_young.a_ninth_page_stands_before_the_old_ones.Given as goal

abbrev pub invariant-loop-now : goal.invariant-loop-now
invariant-loop-now g l = Has l.lru 8
