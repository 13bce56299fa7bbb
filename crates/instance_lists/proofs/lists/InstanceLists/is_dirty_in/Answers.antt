use Rattle.std.proofs.Common.{◌≡◌, ◌∙◌, ◌<◌, Some, None, arith, ap, sym, subst, reverse, length}
use Rattle.std.specs.Prelude.{is_some}
use Rattle.page_ids.specs.declared.ids.PageId.{PageId}
use Rattle.trail.specs.Dirt.{is_dirty}
use Rattle.trail.specs.History.{home}
use Rattle.instance_lists.specs.Ledger.{Ledger}
use Rattle.instance_lists.proofs.ListsFlush.{is_soiled, read_at}
use Rattle.instance_lists.proofs.lists.InstanceLists.is_dirty_in.Goals as goal

pub index-requires : goal.index-requires
index-requires c =
    let k = c.self.invariant.0 in
    let there = subst (λ (l : Ledger). (p : PageId) × (home l.history p ≡ Some c.args.frame)) (sym c.self.view_is) c.requires.listed in
    omega (arith, k.soiled.newest_count, k.homed.housed there.0 c.args.frame there.1)

pub returns : goal.returns
returns c = λ page housed.
    let s = c.self.inside in
    let h = reverse s.history.items in
    let k = c.self.invariant.0 in
    let f = c.args.frame in
    let here = subst (λ (l : Ledger). home l.history page ≡ Some f) (sym c.self.view_is) housed in
    let below : f < length s.newest.items = omega (arith, k.soiled.newest_count, k.homed.housed page f here) in
    c.is_some.ensures ∙ ap is_some (read_at s.newest.items f None c.index.result.now c.index.ensures below)
    ∙ is_soiled s.config h _ s.tenants.items s.newest.items s.flush k.homed k.soiled page f here
    ∙ ap (λ (l : Ledger). is_dirty l.history page) c.self.view_is
