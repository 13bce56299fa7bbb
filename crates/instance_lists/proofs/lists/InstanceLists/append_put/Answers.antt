use Rattle.std.proofs.Common.{◌≡◌, Some, rules, refl, reverse}
use Rattle.trail.specs.History.{home}
use Rattle.instance_lists.proofs.ListsKept.{kept_as, kept_put, pushed, next_place, seen_behind}
use Rattle.instance_lists.proofs.ListsFlush.{soil_new, soil_latest}
use Rattle.instance_lists.proofs.lists.InstanceLists.append_put.Goals as goal

pub soil-requires-clause-new : goal.soil-requires-clause-new
soil-requires-clause-new c =
    let k = c.self.invariant.0 in
    let here : home (reverse c.self.inside.history.items) c.args.page ≡ Some c.in-Some.frame = search rules in
    soil_new _ _ _ _ _ _ k.homed k.soiled c.args.page c.in-Some.frame here

pub soil-requires-clause-latest : goal.soil-requires-clause-latest
soil-requires-clause-latest c = soil_latest _ _ _ _ _ _ c.self.invariant.0.homed c.self.invariant.0.soiled c.args.start (seen_behind c.self.view_is c.args.start c.requires.may.behind)

pub invariant_of-self : goal.invariant_of-self
invariant_of-self c =
    let here : home (reverse c.self.inside.history.items) c.args.page ≡ Some c.in-Some.frame = search rules in (
      kept_as (pushed c.self.inside.history.items c.push_kept.ensures.items) refl refl c.soil.ensures.newest c.soil.ensures.flush refl refl
          (kept_put c.self.invariant.0 c.args.entry (next_place c.self.view_is c.args.entry c.requires.place) c.args.page c.in-Some.frame c.requires.kind.0 c.requires.kind.1 c.args.start c.args.end c.requires.kind.2 here
          (seen_behind c.self.view_is c.args.start c.requires.may.behind) c.requires.may.rises),
      c.self.invariant.1,
    )
