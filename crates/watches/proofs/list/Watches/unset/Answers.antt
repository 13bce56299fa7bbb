use Rattle.std.proofs.Common.{sym, subst, arith}
use Rattle.watches.specs.View.{IsInOrder}
use Rattle.watches.proofs.Order.{unset_in_order}
use Rattle.watches.proofs.list.Watches.unset.Goals as goal

pub invariant_of-self : goal.invariant_of-self
invariant_of-self c =
    let k = c.self.invariant in record {
      order = subst (λ xs. IsInOrder xs) (sym c.take_out.ensures.left) (unset_in_order c.args.caller c.args.page c.self.inside.items.items k.order);
      enough = omega (arith, k.enough, c.take_out.ensures.room);
    }
