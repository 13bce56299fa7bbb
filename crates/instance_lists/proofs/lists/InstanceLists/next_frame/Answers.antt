use Rattle.std.proofs.Common.{◌≡◌, ◌<◌, ℕ, Some, None, rules, subst, reverse, IfSome}
use Rattle.page_ids.specs.declared.ids.PageId.{PageId}
use Rattle.trail.specs.History.{home}
use Rattle.trail.specs.Book.{book, frame_in_turn}
use Rattle.instance_lists.specs.Ledger.{Ledger, IsVacant}
use Rattle.instance_lists.specs.Walk.{AreOrderly}
use Rattle.instance_lists.proofs.ListsWalk.{orderly, next_vacant, all_used}
use Rattle.instance_lists.proofs.lists.InstanceLists.next_frame.Goals as goal

pub returns-in-None-clause-vacant : goal.returns-in-None-clause-vacant
returns-in-None-clause-vacant c =
    let s = c.self.inside in
    let h = reverse s.history.items in
    let is : c.copied.result ≡ frame_in_turn (book s.config h) = search rules in
    subst (λ (l : Ledger). IfSome c.copied.result (λ f. IsVacant l.history f)) c.self.view_is
    (next_vacant s.config h _ _ _ _ _ _ _ _ c.self.invariant.0 c.copied.result is)

pub returns-in-None-clause-none : goal.returns-in-None-clause-none
returns-in-None-clause-none c =
    let s = c.self.inside in
    let h = reverse s.history.items in
    let is : c.copied.result ≡ frame_in_turn (book s.config h) = search rules in
    subst (λ (l : Ledger). c.copied.result ≡ None → (f : ℕ) → f < l.config.frames → (p : PageId) × (home l.history p ≡ Some f)) c.self.view_is
    (all_used s.config h _ _ _ _ _ _ _ _ c.self.invariant.0 c.copied.result is)

pub returns-in-Some-clause-orderly : goal.returns-in-Some-clause-orderly
returns-in-Some-clause-orderly c =
    subst (λ (l : Ledger). AreOrderly l.config l.history) c.self.view_is (orderly c.self.inside.config (reverse c.self.inside.history.items) _ _ _ _ _ _ _ _ c.self.invariant.0)

pub returns-in-None-clause-orderly : goal.returns-in-None-clause-orderly
returns-in-None-clause-orderly c =
    subst (λ (l : Ledger). AreOrderly l.config l.history) c.self.view_is (orderly c.self.inside.config (reverse c.self.inside.history.items) _ _ _ _ _ _ _ _ c.self.invariant.0)
