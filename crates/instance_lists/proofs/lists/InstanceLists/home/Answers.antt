use Rattle.std.proofs.Common.{◌≡◌, ◌∙◌, ◌<◌, Some, rules, sym, subst, reverse, IfSome}
use Rattle.page_ids.specs.declared.ids.PageId.{PageId}
use Rattle.trail.specs.History.{home}
use Rattle.instance_lists.specs.Ledger.{Ledger}
use Rattle.instance_lists.proofs.ListsWalk.{home_below, home_only}
use Rattle.instance_lists.proofs.lists.InstanceLists.home.Goals as goal

pub returns-clause-below : goal.returns-clause-below
returns-clause-below c =
    let s = c.self.inside in
    let is : c.find.result ≡ home (reverse s.history.items) c.args.page = search rules in
    subst (λ (l : Ledger). IfSome c.find.result (λ f. f < l.config.frames)) c.self.view_is
    (home_below c.find.result s.config.frames (λ f here. c.self.invariant.0.homed.housed c.args.page f (sym is ∙ here)))

pub returns-clause-only : goal.returns-clause-only
returns-clause-only c =
    let s = c.self.inside in
    let is : c.find.result ≡ home (reverse s.history.items) c.args.page = search rules in
    subst (λ (l : Ledger). IfSome c.find.result (λ f. (q : PageId) → home l.history q ≡ Some f → q ≡ c.args.page)) c.self.view_is
    (home_only s.config (reverse s.history.items) _ s.tenants.items c.args.page c.find.result c.self.invariant.0.homed is)
