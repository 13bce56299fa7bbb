use Rattle.std.proofs.Common.{◌+◌, sym, ap, subst, arith}
use Rattle.midpoint_lru.specs.View.{View}
use Rattle.part_tests.proofs.Lists.{AreBelow, is_away, is_there, one_more}
use Rattle.part_tests.proofs.old_and_young.read.Goals as goal

pub read_in-requires : goal.read_in-requires
read_in-requires c = record {
  room = omega (arith, c.loop-frame.invariant.room, c.loop-frame-test.true);
  away = is_away c.loop-frame.lru c.loop-frame.frame c.loop-frame.invariant.below;
}

pub loop-frame-preserved : goal.loop-frame-preserved
loop-frame-preserved c = record {
  room = omega (arith, c.loop-frame.invariant.room, ap (λ (v : View). v.room) c.read_in.ensures);
  below = subst (λ (v : View). AreBelow (c.loop-frame.frame + 1) v) (sym c.read_in.ensures) (one_more c.loop-frame.lru c.loop-frame.frame c.loop-frame.invariant.below);
}

pub returns : goal.returns
returns c = λ f l. is_there c.loop-frame.lru c.loop-frame.frame f c.loop-frame.invariant.below (omega (arith, l, c.loop-frame-test.false))
