use Rattle.std.proofs.Common.{◌≡◌, ◌∙◌, ◌-◌, ◌++◌, ◌∷◌, ℕ, None, false, length, set, drop, refl, sym, ap, subst, arith}
use Rattle.std.specs.Prelude.{insert}
use Rattle.std.proofs.lemmas.List.{length-set}
use Rattle.link_lists.specs.Grid.{times}
use Rattle.link_lists.specs.IndexLists.{IndexList}
use Rattle.link_lists.proofs.Times.{times-append, times_at, first_is}
use Rattle.page_ids.specs.Midpoint.{Listed}
use Rattle.midpoint_lru.specs.declared.sublists.Member.{Member}
use Rattle.midpoint_lru.specs.Parts.{Parts}
use Rattle.midpoint_lru.proofs.Steps.{Leaves, with_between, in_list}
use Rattle.midpoint_lru.proofs.Kept.{list_is, room_is, old_is, is_out, is_new, seen_still, kept}
use Rattle.midpoint_lru.proofs.sublists.Sublists.put_last_young.Goals as goal

pub insert_before-requires-clause-present : goal.insert_before-requires-clause-present
insert_before-requires-clause-present c =
    let k = c.self.invariant in
    let at = c.in-Some.at in
    let starts = first_is k.old at (sym k.are.first ∙ c.in-Some.is) in
    omega (arith, ap (times at) (k.are.whole.is ∙ ap (λ ys. k.young ++ ys) starts), times-append at k.young (at ∷ drop 1 k.old), times_at at (drop 1 k.old))

pub insert_before-requires-clause-absent : goal.insert_before-requires-clause-absent
insert_before-requires-clause-absent c = is_new c.self.inside c.args.self.now c.self.view_is c.self.invariant c.args.frame c.requires.out

left : (c : goal.After-stands_in_order) → let m : Member = record { first = None; since = c.args.since; is_old = false } in
    Leaves c.insert_before.new.self (set c.self.inside.members.items c.args.frame m) c.self.inside.first_old
    (insert c.args.self.now.listed (length c.args.self.now.listed - c.self.inside.old_len) (record { key = c.args.frame; first = None; since = c.args.since })) c.self.inside.old_len
left c =
    let a = c.self.inside in
    let p = c.args.self.now in
    let k = c.self.invariant in
    let f = c.args.frame in
    let m : Member = record { first = None; since = c.args.since; is_old = false } in
    let node : Listed ℕ = record { key = f; first = None; since = c.args.since } in
    let ms = a.members.items in
    let starts = first_is k.old c.in-Some.at (sym k.are.first ∙ c.in-Some.is) in
    let put = c.insert_before.ensures k.young (drop 1 k.old) (k.are.whole.is ∙ ap (λ ys. k.young ++ ys) starts) in
    let whole = in_list c.insert_before.new.self (k.young ++ f ∷ k.old) c.stands_in_order.ensures (ap (λ (l : IndexList). l.items) put ∙ ap (λ ys. k.young ++ f ∷ ys) (sym starts)) in
    subst (λ ys. Leaves c.insert_before.new.self (set ms f m) a.first_old (insert ys (length ys - a.old_len) node) a.old_len) (list_is a p c.self.view_is k)
    (with_between a.list c.insert_before.new.self ms a.first_old k.young k.old k.are f m a.old_len (omega (arith, c.requires.out.room, room_is a p c.self.view_is k, k.room)) (is_out a p c.self.view_is k f c.requires.out.away) refl k.share whole)

room_left : (c : goal.After-stands_in_order) → c.insert_before.new.self.room ≡ c.self.inside.list.room
room_left c =
    let k = c.self.invariant in
    ap (λ (l : IndexList). l.room) (c.insert_before.ensures k.young (drop 1 k.old) (k.are.whole.is ∙ ap (λ ys. k.young ++ ys) (first_is k.old c.in-Some.at (sym k.are.first ∙ c.in-Some.is))))

pub returns : goal.returns
returns c =
    let p = c.args.self.now in
    seen_still c.self.inside c.args.self.now c.self.view_is _ _ _ _ (left c) (room_left c)
    ∙ ap (λ n. let w : Parts = record p { listed = insert p.listed (length p.listed - n) (record { key = c.args.frame; first = None; since = c.args.since }) } in w) (sym (old_is c.self.inside c.args.self.now c.self.view_is c.self.invariant))

pub invariant_of-self : goal.invariant_of-self
invariant_of-self c = kept _ _ _ _ _ (left c) (omega (arith, c.self.invariant.room, room_left c, length-set c.self.inside.members.items c.args.frame (record { first = None; since = c.args.since; is_old = false })))
