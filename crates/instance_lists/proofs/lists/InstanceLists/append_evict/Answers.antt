use Rattle.std.proofs.Common.{◌∙◌, None, ap, refl, sym, subst}
use Rattle.std.specs.Prelude.{is_some}
use Rattle.page_hash.specs.View as hash
use Rattle.instance_lists.specs.Ledger.{Ledger, IsDeparture}
use Rattle.instance_lists.specs.KeptLists.{in_turn}
use Rattle.instance_lists.proofs.ListsKept.{kept_as, rehomed, kept_evict, pushed, front_none, next_is, next_place, seen_home}
use Rattle.instance_lists.proofs.ListsOrder.{is_listed}
use Rattle.instance_lists.proofs.lists.InstanceLists.append_evict.Goals as goal

pub remove-requires : goal.remove-requires
remove-requires c = ap is_some (c.self.invariant.0.homed.homes_are c.args.page ∙ seen_home c.self.view_is c.args.page c.args.frame c.requires.may.resident)

pub remove-requires-2-clause-listed : goal.remove-requires-2-clause-listed
remove-requires-2-clause-listed c =
    let k = c.self.invariant.0 in
    is_listed _ _ _ _ _ k.homed k.ordered c.args.page c.args.frame (seen_home c.self.view_is c.args.page c.args.frame c.requires.may.resident)

pub invariant_of-self : goal.invariant_of-self
invariant_of-self c =
    let s = c.self.inside in
    let k = c.self.invariant.0 in
    let may = subst (λ (l : Ledger). IsDeparture l c.args.page c.args.frame) (sym c.self.view_is) c.requires.may in
    let turn = front_none (in_turn s.hand s.free.items) (sym (next_is _ _ s.free.items s.hand k.booked) ∙ may.none_free) in (
      kept_as (pushed c.self.inside.history.items c.push_kept.ensures.items) refl refl refl refl c.remove-2.ensures refl
          (kept_evict k c.args.entry (next_place c.self.view_is c.args.entry c.requires.place) c.args.page c.args.frame c.requires.kind.0 (hash.home c.remove.new.self) c.requires.kind.1 may.resident may.clean turn (rehomed (hash.home c.self.inside.homes) c.args.page None c.remove.ensures.homes)),
      c.remove.ensures.room_is ∙ c.self.invariant.1,
    )
