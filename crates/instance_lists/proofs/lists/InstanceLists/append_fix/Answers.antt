use Rattle.std.proofs.Common.{refl}
use Rattle.instance_lists.proofs.ListsKept.{kept_as, kept_fix, pushed, next_place, seen_home}
use Rattle.instance_lists.proofs.ListsOrder.{is_listed}
use Rattle.instance_lists.proofs.lists.InstanceLists.append_fix.Goals as goal

pub touch-requires : goal.touch-requires
touch-requires c =
    let k = c.self.invariant.0 in
    is_listed _ _ _ _ _ k.homed k.ordered c.args.page c.args.frame (seen_home c.self.view_is c.args.page c.args.frame c.requires.may)

pub invariant_of-self : goal.invariant_of-self
invariant_of-self c = (
  kept_as (pushed c.self.inside.history.items c.push_kept.ensures.items) refl refl refl refl c.touch.ensures.order refl
      (kept_fix c.self.invariant.0 c.args.entry (next_place c.self.view_is c.args.entry c.requires.place) c.args.page c.args.frame c.requires.kind.0 c.args.now c.requires.kind.1 (seen_home c.self.view_is c.args.page c.args.frame c.requires.may)),
  c.self.invariant.1,
)
