use Rattle.std.proofs.Common.{◌∙◌}
use Rattle.part_tests.proofs.Used.{used_less}
use Rattle.part_tests.proofs.homes.Trial.take.Goals as goal

pub invariant_of-self : goal.invariant_of-self
invariant_of-self c =
    let a = c.self.inside in
    let k = c.self.invariant in
    (c.remove.ensures.room_is ∙ k.0, used_less a.hash c.remove.new.self a.used.items c.args.page k.1 c.remove.ensures)
