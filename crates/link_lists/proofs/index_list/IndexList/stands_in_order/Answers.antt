use Rattle.std.proofs.Common.{arith}
use Rattle.link_lists.proofs.Follow.{exists, few}
use Rattle.link_lists.proofs.Lists.{room_is, chain_is}
use Rattle.link_lists.proofs.index_list.IndexList.stands_in_order.Goals as goal

pub returns : goal.returns
returns c =
    let a = c.self.inside in
    let l = c.args.self.now in
    let chain = chain_is c.self.view_is c.self.invariant in
    let room = room_is c.self.view_is c.self.invariant in record {
      once = chain.once;
      below = λ x there. omega (arith, room, exists a.nodes a.chain l.items x chain there);
      few = omega (arith, room, few a.nodes a.chain l.items chain);
    }
