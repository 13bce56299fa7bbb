use Rattle.std.proofs.Common.{refl}
use Rattle.instance_lists.proofs.ListsKept.{kept_as, kept_quiet, pushed, next_place}
use Rattle.instance_lists.proofs.lists.InstanceLists.append_quiet.Goals as goal

pub invariant_of-self : goal.invariant_of-self
invariant_of-self c = (
  kept_as (pushed c.self.inside.history.items c.push_kept.ensures.items) refl refl refl refl refl refl
      (kept_quiet c.self.invariant.0 c.args.entry (next_place c.self.view_is c.args.entry c.requires.place) c.requires.quiet),
  c.self.invariant.1,
)
