use Rattle.std.proofs.Common.{◌≡◌, ◌∙◌, ◌<◌, None, subst, arith, reverse, length}
use Rattle.trail.specs.Victim.{from_the_tail}
use Rattle.instance_lists.specs.Ledger.{Ledger}
use Rattle.instance_lists.specs.Walk.{part_of, first_home}
use Rattle.instance_lists.proofs.Walks.{begins}
use Rattle.instance_lists.proofs.ListsWalk.{walk_is}
use Rattle.instance_lists.proofs.lists.InstanceLists.first_tried.Goals as goal

pub returns : goal.returns
returns c =
    let s = c.self.inside in
    let h = reverse s.history.items in
    let k = c.self.invariant.0 in
    let now = c.args.self.now in
    let tail = c.walk.ensures.next ∙ walk_is s.config h _ s.tenants.items s.lru k.homed k.ordered None tt in
    let there = subst (λ (l : Ledger). c.walk.result ≡ first_home l.history (from_the_tail l.config l.history)) c.self.view_is tail in
    let some : 0 < c.pages_to_try.result = omega (arith, c.if-pages_to_try-eq0.false) in
    let left : 0 < length (part_of now.config now.history c.args.soiled) = omega (arith, some, c.pages_to_try.ensures) in
    begins now.config now.history c.args.soiled c.walk.result left there
