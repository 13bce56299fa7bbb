use Rattle.std.proofs.Common.{◌∙◌, ◌==◌, ℕ, set, refl, ap, subst, arith}
use Rattle.std.specs.Prelude.{slice_set}
use Rattle.std.proofs.lemmas.List.{length-set}
use Rattle.page_ids.specs.Midpoint.{Listed, place_of}
use Rattle.midpoint_lru.specs.declared.sublists.Member.{Member}
use Rattle.midpoint_lru.specs.Parts.{Parts}
use Rattle.midpoint_lru.proofs.Steps.{Leaves, with_access}
use Rattle.midpoint_lru.proofs.Kept.{list_is, is_in, within, read_is, read_as, seen_still, kept}
use Rattle.midpoint_lru.proofs.sublists.Sublists.set_first.Goals as goal

pub index-member-requires : goal.index-member-requires
index-member-requires c = within c.self.inside c.args.self.now c.self.view_is c.self.invariant c.args.frame c.requires

pub index_mut-requires : goal.index_mut-requires
index_mut-requires c = within c.self.inside c.args.self.now c.self.view_is c.self.invariant c.args.frame c.requires

left : (c : goal.After-self-1) → let m : Member = record c.index-member.result.now { first = c.args.first } in
    Leaves c.self.inside.list (set c.self.inside.members.items c.args.frame m) c.self.inside.first_old
    (slice_set c.args.self.now.listed (place_of ◌==◌ c.args.frame c.args.self.now.listed) (record { key = c.args.frame; first = c.args.first; since = m.since })) c.self.inside.old_len
left c =
    let a = c.self.inside in
    let k = c.self.invariant in
    let f = c.args.frame in
    let ms = a.members.items in
    let there = is_in a c.args.self.now c.self.view_is k f c.requires in
    let x = c.index-member.result.now in
    let read = read_is a c.args.self.now c.self.view_is k f c.requires c.index-member.result.now c.index-member.ensures in
    let m : Member = record x { first = c.args.first } in
    let node : Listed ℕ = record { key = f; first = c.args.first; since = x.since } in
    subst (λ ys. Leaves a.list (set ms f m) a.first_old (slice_set ys (place_of ◌==◌ f ys) node) a.old_len) (list_is a c.args.self.now c.self.view_is k)
    (with_access a.list ms a.first_old k.young k.old k.are f m a.old_len (k.are.there f there) k.share there (ap (λ (y : Member). y.is_old) read))

pub returns : goal.returns
returns c = λ y e.
    let p = c.args.self.now in
    let is = read_as c.self.inside c.args.self.now c.self.view_is c.self.invariant c.args.frame c.requires c.index-member.result.now c.index-member.ensures y e in
    seen_still c.self.inside c.args.self.now c.self.view_is _ _ _ _ (left c) refl
    ∙ ap (λ (z : Listed ℕ). let w : Parts = record p { listed = slice_set p.listed (place_of ◌==◌ c.args.frame p.listed) (record { key = z.key; first = c.args.first; since = z.since }) } in w) is

pub invariant_of-self : goal.invariant_of-self
invariant_of-self c = kept _ _ _ _ _ (left c) (omega (arith, c.self.invariant.room, length-set c.self.inside.members.items c.args.frame (record c.index-member.result.now { first = c.args.first })))
