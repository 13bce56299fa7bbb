use Rattle.std.proofs.Common.{sym, subst}
use Rattle.midpoint_lru.specs.View.{View, Has}
use Rattle.part_tests.proofs.Lists.{touch_keeps}
use Rattle.part_tests.proofs.old_and_young.a_ninth_page_stands_before_the_old_ones.Goals as goal

pub loop-now-preserved : goal.loop-now-preserved
loop-now-preserved g c =
    subst (λ (v : View). Has v 8) (sym c.touch.ensures.order) (touch_keeps c.loop-now.lru 8 _ c.loop-now.invariant)
