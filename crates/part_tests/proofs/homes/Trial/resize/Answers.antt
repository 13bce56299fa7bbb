use Rattle.std.proofs.Common.{◌∙◌, length, max, sym, ap, subst, arith}
use Rattle.part_tests.specs.Used.{AreUsed}
use Rattle.part_tests.proofs.Used.{used_same}
use Rattle.part_tests.proofs.homes.Trial.resize.Goals as goal

pub invariant_of-self : goal.invariant_of-self
invariant_of-self c =
    let k = c.self.invariant in
    let e = c.in_err-resize.ensures.err in
    (ap length e ∙ k.0, subst (λ hash. AreUsed hash c.self.inside.used.items) (sym e) k.1)

pub invariant_of-self-2 : goal.invariant_of-self-2
invariant_of-self-2 c =
    let a = c.self.inside in
    let k = c.self.invariant in
    let e = c.in_ok-resize.ensures.ok in
    (omega (arith, e.room_is, k.0, c.max-self-inside.ensures), used_same a.hash c.resize.new.self a.used.items (max (length a.hash) c.args.frames) k.1 e)
