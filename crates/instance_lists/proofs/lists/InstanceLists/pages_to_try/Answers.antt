use Rattle.std.proofs.Common.{◌≡◌, ◌∙◌, ◌-◌, Bool, false, ap, sym, arith, reverse, length}
use Rattle.instance_lists.specs.Ledger.{Ledger}
use Rattle.instance_lists.specs.Walk.{part_of}
use Rattle.instance_lists.proofs.ListsWalk.{dirty_count, whole_count}
use Rattle.instance_lists.proofs.lists.InstanceLists.pages_to_try.Goals as goal

pub overflow_sub-result : goal.overflow_sub-result
overflow_sub-result c =
    let s = c.self.inside in
    let whole = whole_count s.config (reverse s.history.items) _ _ _ _ _ _ _ _ c.self.invariant.0 in
    omega (arith, c.len-dirty.ensures.len, c.len.ensures.len, whole)

pub returns-then-soiled : goal.returns-then-soiled
returns-then-soiled c =
    let s = c.self.inside in
    let h = reverse s.history.items in
    c.len-dirty.ensures.len ∙ dirty_count s.config h _ _ _ _ _ _ _ _ c.self.invariant.0
    ∙ ap (λ (b : Bool). length (part_of s.config h b)) (sym c.if-soiled.true)
    ∙ ap (λ (l : Ledger). length (part_of l.config l.history c.args.soiled)) c.self.view_is

pub returns-else-soiled : goal.returns-else-soiled
returns-else-soiled c =
    let s = c.self.inside in
    let h = reverse s.history.items in
    let whole = whole_count s.config h _ _ _ _ _ _ _ _ c.self.invariant.0 in
    let count : c.len.result - c.len-dirty.result ≡ length (part_of s.config h false) = omega (arith, c.len-dirty.ensures.len, c.len.ensures.len, whole) in
    count ∙ ap (λ (b : Bool). length (part_of s.config h b)) (sym c.if-soiled.false)
    ∙ ap (λ (l : Ledger). length (part_of l.config l.history c.args.soiled)) c.self.view_is
