use Rattle.std.proofs.Common.{refl}
use Rattle.instance_lists.proofs.ListsKept.{kept_as, kept_late, pushed, next_place}
use Rattle.instance_lists.proofs.lists.InstanceLists.append_late.Goals as goal

pub invariant_of-self : goal.invariant_of-self
invariant_of-self c = (
  kept_as (pushed c.self.inside.history.items c.push_kept.ensures.items) c.give_next.ensures.free c.give_next.ensures.hand refl refl refl c.give_next.ensures.room
      (kept_late c.self.invariant.0 c.args.entry (next_place c.self.view_is c.args.entry c.requires.place) c.requires.kind.0 c.requires.kind.1 c.requires.kind.2 c.requires.kind.3),
  c.self.invariant.1,
)
