use Rattle.std.proofs.Common.{◌≡◌, ◌∙◌, Some, ap, subst, sym, reverse, IfSome}
use Rattle.page_ids.specs.declared.ids.PageId.{PageId}
use Rattle.trail.specs.History.{home}
use Rattle.trail.specs.Victim.{from_the_tail}
use Rattle.instance_lists.specs.Ledger.{Ledger}
use Rattle.instance_lists.specs.Walk.{next_home}
use Rattle.instance_lists.proofs.ListsWalk.{has_all, walk_is}
use Rattle.instance_lists.proofs.lists.InstanceLists.walk.Goals as goal

pub walk-requires : goal.walk-requires
walk-requires c =
    let s = c.self.inside in
    let there = subst (λ (l : Ledger). IfSome c.args.after (λ f. (p : PageId) × (home l.history p ≡ Some f))) (sym c.self.view_is) c.requires.listed in
    has_all s.config (reverse s.history.items) _ s.tenants.items s.lru c.self.invariant.0.homed c.self.invariant.0.ordered c.args.after there

pub returns : goal.returns
returns c =
    let s = c.self.inside in
    let there = subst (λ (l : Ledger). IfSome c.args.after (λ f. (p : PageId) × (home l.history p ≡ Some f))) (sym c.self.view_is) c.requires.listed in
    c.walk.ensures.next ∙ walk_is s.config (reverse s.history.items) _ s.tenants.items s.lru c.self.invariant.0.homed c.self.invariant.0.ordered c.args.after there
    ∙ ap (λ (l : Ledger). next_home l.history c.args.after (from_the_tail l.config l.history)) c.self.view_is
