use Rattle.std.proofs.Common.{◌≡◌, ◌∙◌, ◌<◌, ◌≤◌, ◌∷◌, [], List, None, arith, ap, subst, sym, reverse, length, IsSome}
use Rattle.std.specs.Prelude.{is_some}
use Rattle.trail.specs.declared.event.Dirty.{Dirty}
use Rattle.trail.specs.History.{home}
use Rattle.trail.specs.Dirt.{dirty, log_end}
use Rattle.instance_lists.specs.Ledger.{Ledger}
use Rattle.instance_lists.proofs.Dirt.{no_way}
use Rattle.instance_lists.proofs.ListsFlush.{none_first, tail_below, tail_soiled, oldest_is, read_at, tenant_at}
use Rattle.instance_lists.proofs.lists.InstanceLists.oldest.Goals as goal

pub returns-in_err-frame-clause-none : goal.returns-in_err-frame-clause-none
returns-in_err-frame-clause-none c = λ none.
    let s = c.self.inside in
    let k = c.self.invariant.0 in
    subst (λ (l : Ledger). dirty l.history ≡ []) c.self.view_is
    (none_first s.config (reverse s.history.items) _ s.tenants.items s.newest.items s.flush k.homed k.soiled (sym c.tail.ensures.tail ∙ c.in_err-frame.was))

pub index-requires : goal.index-requires
index-requires c =
    let s = c.self.inside in
    let k = c.self.invariant.0 in
    let below = tail_below s.config (reverse s.history.items) _ s.tenants.items s.newest.items s.flush k.homed k.soiled c.in_ok-frame.frame (sym c.tail.ensures.tail ∙ c.in_ok-frame.was) in
    omega (arith, below, k.soiled.newest_count)

pub returns-in_err-newest-clause-none : goal.returns-in_err-newest-clause-none
returns-in_err-newest-clause-none c = λ none.
    let s = c.self.inside in
    let k = c.self.invariant.0 in
    let f = c.in_ok-frame.frame in
    let tail = sym c.tail.ensures.tail ∙ c.in_ok-frame.was in
    let below : f < length s.newest.items = omega (arith, tail_below s.config (reverse s.history.items) _ s.tenants.items s.newest.items s.flush k.homed k.soiled f tail, k.soiled.newest_count) in
    let some = tail_soiled s.config (reverse s.history.items) _ s.tenants.items s.newest.items s.flush k.homed k.soiled f tail in
    absurd (no_way (sym some ∙ ap is_some (sym (read_at s.newest.items f None c.index.result.now c.index.ensures below) ∙ c.in_err-newest.was)))

pub index-requires-2 : goal.index-requires-2
index-requires-2 c =
    let s = c.self.inside in
    let k = c.self.invariant.0 in
    let below = tail_below s.config (reverse s.history.items) _ s.tenants.items s.newest.items s.flush k.homed k.soiled c.in_ok-frame.frame (sym c.tail.ensures.tail ∙ c.in_ok-frame.was) in
    omega (arith, below, k.homed.tenant_count)

pub returns : goal.returns
returns c =
    let s = c.self.inside in
    let k = c.self.invariant.0 in
    let h = reverse s.history.items in
    let f = c.in_ok-frame.frame in
    let page = c.index-2.result.now in
    let newest = c.in_ok-newest.newest in
    let oldest = c.in_ok-oldest.oldest in
    let tail = sym c.tail.ensures.tail ∙ c.in_ok-frame.was in
    let below = tail_below s.config h _ s.tenants.items s.newest.items s.flush k.homed k.soiled f tail in
    let own = tenant_at s.tenants.items f page c.index-2.ensures (omega (arith, below, k.homed.tenant_count)) in
    let last = sym (read_at s.newest.items f None c.index.result.now c.index.ensures (omega (arith, below, k.soiled.newest_count))) ∙ c.in_ok-newest.was in
    let told = oldest_is s.config h _ s.tenants.items s.newest.items s.flush k.homed k.soiled f page oldest newest tail own (sym c.oldest.ensures.oldest ∙ c.in_ok-oldest.was) last in
    record {
      some = subst (λ (l : Ledger). (rest : List Dirty) × (dirty l.history ≡ record { page = page; oldest = oldest; newest = newest } ∷ rest)) c.self.view_is told.some;
      resident = subst (λ (l : Ledger). IsSome (home l.history page)) c.self.view_is told.resident;
      logged = subst (λ (l : Ledger). newest ≤ log_end l.history) c.self.view_is told.logged;
      early = subst (λ (l : Ledger). oldest ≤ log_end l.history) c.self.view_is told.early;
      none = λ is. absurd (cc);
    }
