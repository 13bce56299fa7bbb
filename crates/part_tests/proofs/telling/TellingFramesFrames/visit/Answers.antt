use Rattle.part_tests.proofs.Tells.{kept_visited}
use Rattle.part_tests.proofs.telling.TellingFramesFrames.visit.Goals as goal

pub invariant_of-self : goal.invariant_of-self
invariant_of-self g c = kept_visited _ c.self.inside.frames c.visit.new.self c.args.frame c.visit.result c.self.invariant c.visit.ensures.seen
