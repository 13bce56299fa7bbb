use Rattle.std.proofs.Common.{subst, arith}
use Rattle.std.proofs.lemmas.List.{length-map}
use Rattle.flush_list.specs.View.{IsInOrder}
use Rattle.flush_list.specs.Inside.{node_of}
use Rattle.flush_list.proofs.Order.{apart_all, below_all}
use Rattle.flush_list.proofs.flush.Flush.stands_in_order.Goals as goal

pub returns : goal.returns
returns c =
    let a = c.self.inside in
    let os = a.oldest.items in
    let order = c.stands_in_order.ensures in
    subst IsInOrder c.self.view_is (record {
      once = apart_all os a.list.items order.once;
      below = below_all os a.list.room a.list.items order.below;
      falling = c.self.invariant.falling;
      few = omega (arith, order.few, length-map a.list.items (node_of os));
    })
