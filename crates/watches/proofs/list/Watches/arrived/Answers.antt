use Rattle.std.proofs.Common.{◌≡◌, ◌∙◌, ◌<◌, length, get_or, sym, ap, subst, arith}
use Rattle.std.proofs.lemmas.List.{with_items_is, get_or_default}
use Rattle.std.proofs.lemmas.Grind.{common_steps}
use Rattle.std.proofs.lemmas.List.Edits.{map_over_more}
use Rattle.watches.specs.View.{IsInOrder, come, after_arrival}
use Rattle.watches.proofs.Order.{arrived_in_order}
use Rattle.watches.proofs.list.Watches.arrived.Goals as goal

pub invariant_of-self : goal.invariant_of-self
invariant_of-self c =
    let xs = c.self.inside.items.items in
    let ys = c.loop-w.w-items in
    let e = c.deref_mut-w-items.ensures.value in
    let long = ap length e in
    let written : ys ≡ after_arrival c.args.page xs = grind (arith, common_steps) in
    record {
      order = subst (λ ws. IsInOrder ws) (sym (with_items_is c.self.inside.items ys (omega (arith, c.loop-w.auto.w-items, long, c.self.inside.items.ok.0)) ∙ written)) (arrived_in_order c.args.page xs c.self.invariant.order);
      enough = c.self.invariant.enough;
    }

pub loop-w-preserved : goal.loop-w-preserved
loop-w-preserved c =
    let i = c.loop-w.w-index in
    let xs = c.args.self.now in
    let ys = c.loop-w.w-items in
    let within : i < length ys = omega (arith, c.loop-w-test.true, c.loop-w.auto.w-items) in
    let inside : i < length xs = omega (arith, c.loop-w-test.true, ap length c.deref_mut-w-items.ensures.value, ap length c.self.view_is) in
    rw c.come.ensures (map_over_more (come c.args.page) xs ys i (get_or ys i _) inside c.loop-w.invariant (get_or_default ys i _ _ within))
