use Rattle.std.proofs.Common.{◌∙◌, Some, arith, refl, drop}
use Rattle.page_hash.specs.View as hash
use Rattle.instance_lists.specs.KeptLists.{in_turn}
use Rattle.instance_lists.proofs.ListsKept.{kept_as, rehomed, kept_load, pushed, next_place, comes}
use Rattle.instance_lists.proofs.lists.InstanceLists.append_load.Goals as goal

pub insert-requires-clause-room : goal.insert-requires-clause-room
insert-requires-clause-room c = let to = comes c.self.view_is c.self.invariant.0 c.args.page c.args.frame c.requires.may.absent c.requires.may.next in omega (arith, to.below, c.self.invariant.1)

pub insert-requires-clause-page : goal.insert-requires-clause-page
insert-requires-clause-page c = let to = comes c.self.view_is c.self.invariant.0 c.args.page c.args.frame c.requires.may.absent c.requires.may.next in to.unfiled

pub insert-requires-clause-frame : goal.insert-requires-clause-frame
insert-requires-clause-frame c = let to = comes c.self.view_is c.self.invariant.0 c.args.page c.args.frame c.requires.may.absent c.requires.may.next in to.unused

pub read_in-requires : goal.read_in-requires
read_in-requires c = let to = comes c.self.view_is c.self.invariant.0 c.args.page c.args.frame c.requires.may.absent c.requires.may.next in to.new

pub invariant_of-self : goal.invariant_of-self
invariant_of-self c =
    let s = c.self.inside in
    let to = comes c.self.view_is c.self.invariant.0 c.args.page c.args.frame c.requires.may.absent c.requires.may.next in (
      kept_as (pushed c.self.inside.history.items c.push_kept.ensures.items) c.take_next.ensures.free c.take_next.ensures.hand refl refl c.read_in.ensures c.take_next.ensures.room
          (kept_load c.self.invariant.0 c.args.entry (next_place c.self.view_is c.args.entry c.requires.place) c.args.page c.args.frame (hash.home c.insert.new.self) (drop 1 (in_turn s.hand s.free.items)) c.requires.kind to.absent to.turn (rehomed (hash.home c.self.inside.homes) c.args.page (Some c.args.frame) c.insert.ensures.homes)),
      c.insert.ensures.room_is ∙ c.self.invariant.1,
    )
