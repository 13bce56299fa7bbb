use Rattle.std.proofs.Common.{◌≡◌, ◌∙◌, ◌-◌, ◌++◌, ◌∷◌, false, set, drop, refl, sym, ap, subst, arith}
use Rattle.std.proofs.lemmas.List.{length-set, get_or_default}
use Rattle.link_lists.specs.Grid.{times}
use Rattle.link_lists.proofs.Times.{times-append, times_at, first_is}
use Rattle.midpoint_lru.specs.declared.sublists.Member.{Member}
use Rattle.midpoint_lru.specs.Parts.{Parts}
use Rattle.midpoint_lru.proofs.Steps.{Leaves, blank, narrower}
use Rattle.midpoint_lru.proofs.Kept.{list_is, room_is, old_is, seen, kept}
use Rattle.midpoint_lru.proofs.sublists.Sublists.narrow.Goals as goal

left : (c : goal.After-self-in-Some-2-1) → let m : Member = record c.index-member.result.now { is_old = false } in
    Leaves c.self.inside.list (set c.self.inside.members.items c.in-Some.frame m) c.next-self-inside.result c.args.self.now.listed (c.self.inside.old_len - 1)
left c =
    let a = c.self.inside in
    let k = c.self.invariant in
    let f = c.in-Some.frame in
    let m : Member = record c.index-member.result.now { is_old = false } in
    let starts : k.old ≡ f ∷ drop 1 k.old = first_is k.old f (sym k.are.first ∙ c.in-Some.is) in
    let whole = k.are.whole.is ∙ ap (λ ys. k.young ++ ys) starts in
    let l = k.are.there f (omega (arith, ap (λ ys. times f (k.young ++ ys)) starts, times-append f k.young (f ∷ drop 1 k.old), times_at f (drop 1 k.old))) in
    let read = c.index-member.ensures ∙ get_or_default a.members.items f c.index-member.result.now blank l in
    subst (λ ys. Leaves a.list (set a.members.items f m) c.next-self-inside.result ys (a.old_len - 1)) (list_is a c.args.self.now c.self.view_is k)
    (narrower a.list a.members.items a.first_old k.young k.old k.are f m a.old_len l k.share (drop 1 k.old) c.next-self-inside.result starts
    (c.next-self-inside.ensures k.young (drop 1 k.old) whole) (ap (λ (y : Member). y.first) read) (ap (λ (y : Member). y.since) read) refl)

pub returns : goal.returns
returns c =
    let a = c.self.inside in
    let p = c.args.self.now in
    let k = c.self.invariant in
    seen _ _ _ _ (a.old_len - 1) p.room (left c) (sym (room_is a p c.self.view_is k))
    ∙ ap (λ n. let w : Parts = record { listed = p.listed; old_len = n - 1; room = p.room } in w) (sym (old_is a p c.self.view_is k))

pub invariant_of-self : goal.invariant_of-self
invariant_of-self c = kept _ _ _ _ _ (left c) (omega (arith, c.self.invariant.room, length-set c.self.inside.members.items c.in-Some.frame (record c.index-member.result.now { is_old = false })))
