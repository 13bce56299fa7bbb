use Rattle.std.proofs.Common.{◌∙◌, eqb, sym, ap, subst}
use Rattle.std.specs.List.{list_any}
use Rattle.part_tests.specs.Used.{AreUsed}
use Rattle.part_tests.proofs.Used.{unused, used_more}
use Rattle.part_tests.proofs.homes.Trial.put.Goals as goal

pub invariant_of-self : goal.invariant_of-self
invariant_of-self c =
    let k = c.self.invariant in
    (k.0, subst (λ xs. AreUsed c.self.inside.hash xs) (sym c.in_err-push.ensures.items) k.1)

pub insert-requires-clause-frame : goal.insert-requires-clause-frame
insert-requires-clause-frame c =
    let used = c.self.inside.used.items in
    unused c.self.inside.hash used c.args.frame c.self.invariant.1
    (sym (ap (λ xs. list_any (λ u. eqb u c.args.frame) xs) c.deref.ensures.value) ∙ sym c.contains-known.ensures.value ∙ c.if-known.false)

pub invariant_of-self-2 : goal.invariant_of-self-2
invariant_of-self-2 c =
    let a = c.self.inside in
    let k = c.self.invariant in
    (c.insert.ensures.room_is ∙ k.0, subst (λ xs. AreUsed c.insert.new.self xs) (sym c.in_ok-push.ensures.items) (used_more a.hash c.insert.new.self a.used.items c.args.page c.args.frame k.1 c.insert.ensures))
