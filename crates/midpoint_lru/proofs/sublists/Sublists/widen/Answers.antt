use Rattle.std.proofs.Common.{◌∙◌, ◌+◌, ◌++◌, Some, true, length, set, refl, sym, ap, subst, arith}
use Rattle.std.proofs.lemmas.List.{length-set, length-append, length-map, get_or_default}
use Rattle.link_lists.proofs.Times.{last_there}
use Rattle.midpoint_lru.specs.declared.sublists.Member.{Member}
use Rattle.midpoint_lru.specs.Parts.{Parts}
use Rattle.midpoint_lru.specs.Sublists.{listed_of}
use Rattle.midpoint_lru.proofs.Steps.{Leaves, blank, wider, none_last}
use Rattle.midpoint_lru.proofs.Kept.{list_is, room_is, old_is, last_within, seen, kept}
use Rattle.midpoint_lru.proofs.sublists.Sublists.widen.Goals as goal

pub index-member-requires : goal.index-member-requires
index-member-requires c =
    let k = c.self.invariant in
    omega (arith, last_within c.self.inside c.args.self.now c.self.view_is k c.in-Some.frame (sym (c.last_young.ensures k.young k.old k.are.whole.is k.are.first) ∙ c.in-Some.is), c.self.inside.members.ok.0)

pub index_mut-requires : goal.index_mut-requires
index_mut-requires c =
    let k = c.self.invariant in
    omega (arith, last_within c.self.inside c.args.self.now c.self.view_is k c.in-Some.frame (sym (c.last_young.ensures k.young k.old k.are.whole.is k.are.first) ∙ c.in-Some.is), c.self.inside.members.ok.0)

pub unreachable-requires : goal.unreachable-requires
unreachable-requires c =
    let a = c.self.inside in
    let p = c.args.self.now in
    let k = c.self.invariant in
    let none = none_last k.young (sym (sym c.in-None.is ∙ c.last_young.ensures k.young k.old k.are.whole.is k.are.first)) in
    absurd (omega (arith, c.requires, ap length none, length-append k.young k.old, k.share, old_is a p c.self.view_is k, ap length (list_is a p c.self.view_is k), length-map (k.young ++ k.old) (listed_of a.members.items)))

left : (c : goal.After-self-in-Some-2-1) → let m : Member = record c.index-member.result.now { is_old = true } in
    Leaves c.self.inside.list (set c.self.inside.members.items c.in-Some.frame m) (Some c.in-Some.frame) c.args.self.now.listed (c.self.inside.old_len + 1)
left c =
    let a = c.self.inside in
    let k = c.self.invariant in
    let f = c.in-Some.frame in
    let ms = a.members.items in
    let m : Member = record c.index-member.result.now { is_old = true } in
    let last_is = sym (c.last_young.ensures k.young k.old k.are.whole.is k.are.first) ∙ c.in-Some.is in
    let t = last_there k.young f last_is in
    let l = last_within a c.args.self.now c.self.view_is k f last_is in
    let read = c.index-member.ensures ∙ get_or_default ms f c.index-member.result.now blank l in
    subst (λ ys. Leaves a.list (set ms f m) (Some f) ys (a.old_len + 1)) (list_is a c.args.self.now c.self.view_is k)
    (wider a.list ms a.first_old k.young k.old k.are f m a.old_len l k.share t.0 t.1 (ap (λ (y : Member). y.first) read) (ap (λ (y : Member). y.since) read) refl)

pub returns : goal.returns
returns c =
    let a = c.self.inside in
    let p = c.args.self.now in
    let k = c.self.invariant in
    seen _ _ _ _ (a.old_len + 1) p.room (left c) (sym (room_is a p c.self.view_is k))
    ∙ ap (λ n. let w : Parts = record { listed = p.listed; old_len = n + 1; room = p.room } in w) (sym (old_is a p c.self.view_is k))

pub invariant_of-self : goal.invariant_of-self
invariant_of-self c = kept _ _ _ _ _ (left c) (omega (arith, c.self.invariant.room, length-set c.self.inside.members.items c.in-Some.frame (record c.index-member.result.now { is_old = true })))
