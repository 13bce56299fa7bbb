use Rattle.std.proofs.Common.{◌≡◌, Some, None, rules, refl, reverse}
use Rattle.trail.specs.History.{home}
use Rattle.instance_lists.proofs.ListsKept.{kept_as, kept_write, kept_write_away, pushed, next_place}
use Rattle.instance_lists.proofs.ListsFlush.{clean_has}
use Rattle.instance_lists.proofs.lists.InstanceLists.append_write.Goals as goal

pub clean-requires-clause-listed : goal.clean-requires-clause-listed
clean-requires-clause-listed c = λ some.
    let k = c.self.invariant.0 in
    let here : home (reverse c.self.inside.history.items) c.args.page ≡ Some c.in-Some.frame = search rules in
    clean_has _ _ _ _ _ _ k.homed k.soiled c.args.page c.in-Some.frame here some

pub invariant_of-self : goal.invariant_of-self
invariant_of-self c =
    let here : home (reverse c.self.inside.history.items) c.args.page ≡ Some c.in-Some.frame = search rules in (
      kept_as (pushed c.self.inside.history.items c.push_kept.ensures.items) refl refl c.clean.ensures.newest c.clean.ensures.flush refl refl
          (kept_write c.self.invariant.0 c.args.entry (next_place c.self.view_is c.args.entry c.requires.place) c.args.page c.in-Some.frame c.requires.kind.0 c.requires.kind.1 c.requires.kind.2 here),
      c.self.invariant.1,
    )

pub invariant_of-self-in_default : goal.invariant_of-self-in_default
invariant_of-self-in_default c =
    let absent : home (reverse c.self.inside.history.items) c.args.page ≡ None = search rules in (
      kept_as (pushed c.self.inside.history.items c.push_kept.ensures.items) refl refl refl refl refl refl
          (kept_write_away c.self.invariant.0 c.args.entry (next_place c.self.view_is c.args.entry c.requires.place) c.args.page c.requires.kind.0 c.requires.kind.1 c.requires.kind.2 absent),
      c.self.invariant.1,
    )
