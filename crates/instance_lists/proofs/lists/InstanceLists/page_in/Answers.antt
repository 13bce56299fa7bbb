use Rattle.std.proofs.Common.{◌≡◌, ◌∙◌, ◌<◌, Some, arith, ap, sym, subst, reverse, length}
use Rattle.page_ids.specs.declared.ids.PageId.{PageId}
use Rattle.trail.specs.History.{home}
use Rattle.instance_lists.specs.Ledger.{Ledger}
use Rattle.instance_lists.proofs.ListsFlush.{tenant_at}
use Rattle.instance_lists.proofs.lists.InstanceLists.page_in.Goals as goal

pub returns : goal.returns
returns c =
    let s = c.self.inside in
    let k = c.self.invariant.0 in
    let f = c.args.frame in
    let there = subst (λ (l : Ledger). (page : PageId) × (home l.history page ≡ Some f)) (sym c.self.view_is) c.requires.listed in
    let below : f < length s.tenants.items = omega (arith, k.homed.tenant_count, k.homed.housed there.0 f there.1) in
    let own = tenant_at s.tenants.items f c.index.result.now c.index.ensures below in
    record { home = subst (λ (l : Ledger). home l.history c.index.result.now ≡ Some f) c.self.view_is (ap (home (reverse s.history.items)) (own ∙ k.homed.tenants_are there.0 f there.1) ∙ there.1) }
