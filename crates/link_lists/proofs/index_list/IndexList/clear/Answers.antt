use Rattle.std.proofs.Common.{[], refl, arith}
use Rattle.link_lists.proofs.Lists.{room_is, seen, kept}
use Rattle.link_lists.proofs.index_list.IndexList.clear.Goals as goal

pub returns : goal.returns
returns c =
    let a = c.self.inside in
    let k = c.self.invariant in
    seen a.nodes _ [] (c.new-self-inside.ensures.empty a.nodes (omega (arith, k.chain.pair))) _ (room_is c.self.view_is k)

pub invariant_of-self : goal.invariant_of-self
invariant_of-self c =
    let a = c.self.inside in
    let k = c.self.invariant in
    kept a.nodes _ [] (c.new-self-inside.ensures.empty a.nodes (omega (arith, k.chain.pair))) 0 refl k.fits
