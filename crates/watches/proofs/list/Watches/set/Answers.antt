use Rattle.std.proofs.Common.{◌∙◌, sym, subst, ap, arith}
use Rattle.watches.specs.View.{IsInOrder, stands}
use Rattle.watches.proofs.Order.{set_in_order}
use Rattle.watches.proofs.list.Watches.set.Goals as goal

pub invariant_of-self : goal.invariant_of-self
invariant_of-self c =
    let k = c.self.invariant in
    let ws = c.self.inside.items.items in
    record {
      order = subst (λ xs. IsInOrder xs) (sym c.push_reserved.ensures.items)
          (set_in_order c.args.caller c.args.page ws (ap (λ xs. stands c.args.caller c.args.page xs) c.self.view_is ∙ sym c.stands.ensures ∙ c.if-stands.false) (omega (arith, k.order.few, c.len.ensures, c.if-len.false)) k.order);
      enough = omega (arith, k.enough, c.push_reserved.ensures.capacity);
    }
