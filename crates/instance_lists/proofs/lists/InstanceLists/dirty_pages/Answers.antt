use Rattle.std.proofs.Common.{◌∙◌, arith, ap, reverse, length}
use Rattle.trail.specs.Dirt.{dirty}
use Rattle.trail.specs.declared.event.Dirty.{Dirty}
use Rattle.instance_lists.specs.Ledger.{Ledger}
use Rattle.instance_lists.proofs.ListsFlush.{count_is}
use Rattle.instance_lists.proofs.lists.InstanceLists.dirty_pages.Goals as goal

pub returns-clause-count : goal.returns-clause-count
returns-clause-count c =
    let s = c.self.inside in
    let k = c.self.invariant.0 in
    c.len.ensures.len ∙ count_is s.config (reverse s.history.items) _ s.tenants.items s.newest.items s.flush k.homed k.soiled
    ∙ ap (λ (l : Ledger). length {A = Dirty} (dirty l.history)) c.self.view_is

pub returns-clause-few : goal.returns-clause-few
returns-clause-few c =
    let config = ap (λ (l : Ledger). l.config.frames) c.self.view_is in
    omega (arith, c.len.ensures.few, c.self.invariant.0.soiled.room_is, config)
