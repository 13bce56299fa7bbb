use Rattle.std.proofs.Common.{◌∙◌, Some, arith}
use Rattle.page_hash.specs.View as hash
use Rattle.instance_lists.proofs.ListsKept.{kept_as, rehomed, pushed, next_place, seen_behind, comes}
use Rattle.instance_lists.proofs.ListsFlush.{soil_latest}
use Rattle.instance_lists.proofs.ListsMaking.{kept_create, first_new}
use Rattle.instance_lists.proofs.lists.InstanceLists.append_create.Goals as goal

pub insert-requires-clause-room : goal.insert-requires-clause-room
insert-requires-clause-room c = let to = comes c.self.view_is c.self.invariant.0 c.args.page c.args.frame c.requires.may.absent c.requires.may.next in omega (arith, to.below, c.self.invariant.1)

pub insert-requires-clause-page : goal.insert-requires-clause-page
insert-requires-clause-page c = let to = comes c.self.view_is c.self.invariant.0 c.args.page c.args.frame c.requires.may.absent c.requires.may.next in to.unfiled

pub insert-requires-clause-frame : goal.insert-requires-clause-frame
insert-requires-clause-frame c = let to = comes c.self.view_is c.self.invariant.0 c.args.page c.args.frame c.requires.may.absent c.requires.may.next in to.unused

pub list_made-requires : goal.list_made-requires
list_made-requires c = let to = comes c.self.view_is c.self.invariant.0 c.args.page c.args.frame c.requires.may.absent c.requires.may.next in to.new

pub soil-requires-clause-new : goal.soil-requires-clause-new
soil-requires-clause-new c =
    let to = comes c.self.view_is c.self.invariant.0 c.args.page c.args.frame c.requires.may.absent c.requires.may.next in
    first_new c.self.invariant.0 c.args.entry (next_place c.self.view_is c.args.entry c.requires.place) c.args.page c.args.frame to.absent to.turn (rehomed (hash.home c.self.inside.homes) c.args.page (Some c.args.frame) c.insert.ensures.homes)

pub soil-requires-clause-latest : goal.soil-requires-clause-latest
soil-requires-clause-latest c = soil_latest _ _ _ _ _ _ c.self.invariant.0.homed c.self.invariant.0.soiled c.args.start (seen_behind c.self.view_is c.args.start c.requires.may.behind)

pub invariant_of-self : goal.invariant_of-self
invariant_of-self c =
    let to = comes c.self.view_is c.self.invariant.0 c.args.page c.args.frame c.requires.may.absent c.requires.may.next in (
      kept_as (pushed c.self.inside.history.items c.push_kept.ensures.items) c.take_next.ensures.free c.take_next.ensures.hand c.soil.ensures.newest c.soil.ensures.flush c.list_made.ensures c.take_next.ensures.room
          (kept_create c.self.invariant.0 c.args.entry (next_place c.self.view_is c.args.entry c.requires.place) c.args.page c.args.frame to.absent to.turn (rehomed (hash.home c.self.inside.homes) c.args.page (Some c.args.frame) c.insert.ensures.homes)
          c.args.now c.args.start c.args.end c.requires.kind (seen_behind c.self.view_is c.args.start c.requires.may.behind) c.requires.may.rises),
      c.insert.ensures.room_is ∙ c.self.invariant.1,
    )
