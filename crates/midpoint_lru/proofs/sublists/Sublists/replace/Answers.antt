use Rattle.std.proofs.Common.{◌≡◌, ◌∙◌, ◌==◌, ◌++◌, ◌∷◌, ℕ, set, ap, subst, arith}
use Rattle.std.specs.Prelude.{slice_set}
use Rattle.std.proofs.lemmas.List.{length-set}
use Rattle.link_lists.specs.IndexLists.{IndexList}
use Rattle.link_lists.proofs.Times.{placed}
use Rattle.page_ids.specs.Midpoint.{Listed, place_of}
use Rattle.midpoint_lru.specs.Parts.{Parts}
use Rattle.midpoint_lru.specs.Sublists.{listed_as}
use Rattle.midpoint_lru.proofs.Steps.{Leaves, swapped, in_list}
use Rattle.midpoint_lru.proofs.Kept.{list_is, room_is, is_in, is_out, is_new, has, within, read_is, read_as, seen_still, kept}
use Rattle.midpoint_lru.proofs.sublists.Sublists.replace.Goals as goal

pub index-member-requires : goal.index-member-requires
index-member-requires c = within c.self.inside c.args.self.now c.self.view_is c.self.invariant c.args.old c.requires.listed

pub replace-requires-clause-present : goal.replace-requires-clause-present
replace-requires-clause-present c = has c.self.inside c.args.self.now c.self.view_is c.self.invariant c.args.old c.requires.listed

pub replace-requires-clause-absent : goal.replace-requires-clause-absent
replace-requires-clause-absent c = is_new c.self.inside c.args.self.now c.self.view_is c.self.invariant c.args.new (record { room = c.requires.room; away = c.requires.away })

left : (c : goal.After-stands_in_order) → let m = c.index-member.result.now in
    Leaves c.replace.new.self (set c.self.inside.members.items c.args.new m) c.instead-self-inside.result
    (slice_set c.args.self.now.listed (place_of ◌==◌ c.args.old c.args.self.now.listed) (listed_as c.args.new m)) c.self.inside.old_len
left c =
    let a = c.self.inside in
    let k = c.self.invariant in
    let old = c.args.old in
    let new = c.args.new in
    let ms = a.members.items in
    let m = c.index-member.result.now in
    let node = listed_as new m in
    let there = is_in a c.args.self.now c.self.view_is k old c.requires.listed in
    let read = read_is a c.args.self.now c.self.view_is k old c.requires.listed c.index-member.result.now c.index-member.ensures in
    subst (λ ys. Leaves c.replace.new.self (set ms new m) c.instead-self-inside.result (slice_set ys (place_of ◌==◌ old ys) node) a.old_len) (list_is a c.args.self.now c.self.view_is k)
    (swapped a.list c.replace.new.self ms a.first_old c.instead-self-inside.result k.young k.old k.are old new m a.old_len
    (omega (arith, c.requires.room, room_is a c.args.self.now c.self.view_is k, k.room)) k.share (is_out a c.args.self.now c.self.view_is k new c.requires.away) read c.instead-self-inside.ensures
    (λ front back w. in_list c.replace.new.self (front ++ new ∷ back) c.stands_in_order.ensures (ap (λ (l : IndexList). l.items) (c.replace.ensures front back w.is))) there)

room_left : (c : goal.After-stands_in_order) → c.replace.new.self.room ≡ c.self.inside.list.room
room_left c =
    let t = placed c.args.old c.self.inside.list.items (has c.self.inside c.args.self.now c.self.view_is c.self.invariant c.args.old c.requires.listed) in
    ap (λ (l : IndexList). l.room) (c.replace.ensures t.0 t.1 t.2)

pub returns : goal.returns
returns c = λ y e.
    let p = c.args.self.now in
    let is = read_as c.self.inside c.args.self.now c.self.view_is c.self.invariant c.args.old c.requires.listed c.index-member.result.now c.index-member.ensures y e in
    seen_still c.self.inside c.args.self.now c.self.view_is _ _ _ _ (left c) (room_left c)
    ∙ ap (λ (z : Listed ℕ). let w : Parts = record p { listed = slice_set p.listed (place_of ◌==◌ c.args.old p.listed) (record { key = c.args.new; first = z.first; since = z.since }) } in w) is

pub invariant_of-self : goal.invariant_of-self
invariant_of-self c = kept _ _ _ _ _ (left c) (omega (arith, c.self.invariant.room, room_left c, length-set c.self.inside.members.items c.args.new c.index-member.result.now))
