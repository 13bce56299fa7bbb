use Rattle.std.proofs.Common.{◌∙◌, ◌≤◌, ℕ, List, map, set, sym, ap, subst, arith}
use Rattle.std.specs.Prelude.{AllPairs}
use Rattle.std.proofs.lemmas.List.{length-set, get_or_default}
use Rattle.link_lists.specs.Grid.{times}
use Rattle.link_lists.specs.IndexLists.{IndexList}
use Rattle.link_lists.proofs.Times.{placed}
use Rattle.flush_list.specs.View.{View, relocated}
use Rattle.flush_list.specs.Inside.{node_of}
use Rattle.flush_list.proofs.Order.{falling-relocate}
use Rattle.flush_list.proofs.Frames.{replaced}
use Rattle.flush_list.proofs.Kept.{listed_is, room_is, falling_is, is_in, is_new, seen}
use Rattle.flush_list.proofs.flush.Flush.relocate.Goals as goal

pub index-oldest-requires : goal.index-oldest-requires
index-oldest-requires c =
    let a = c.self.inside in
    let there = is_in a c.args.self.now c.self.view_is c.args.old c.requires.listed in
    omega (arith, c.stands_in_order.ensures.below c.args.old there, c.self.invariant.room, a.oldest.ok.0)

pub replace-requires-clause-present : goal.replace-requires-clause-present
replace-requires-clause-present c = is_in c.self.inside c.args.self.now c.self.view_is c.args.old c.requires.listed

pub replace-requires-clause-absent : goal.replace-requires-clause-absent
replace-requires-clause-absent c = is_new c.self.inside c.args.self.now c.self.view_is c.args.new c.requires.new

pub returns : goal.returns
returns c =
    let a = c.self.inside in
    let v = c.args.self.now in
    let os = a.oldest.items in
    let there = is_in a v c.self.view_is c.args.old c.requires.listed in
    let fresh = is_new a v c.self.view_is c.args.new c.requires.new in
    let order = c.stands_in_order.ensures in
    let t = placed c.args.old a.list.items there in
    let once = subst (λ (xs : List ℕ). times c.args.old xs ≤ 1) t.2 (order.once c.args.old) in
    let out = ap (times c.args.new) (sym t.2) ∙ fresh.away in
    let is = c.replace.ensures t.0 t.1 t.2 in
    let oldest = c.index-oldest.result.now in
    let read = c.index-oldest.ensures ∙ get_or_default os c.args.old oldest 0 (omega (arith, order.below c.args.old there, c.self.invariant.room)) in
    seen v (set os c.args.new oldest) c.replace.new.self _ (ap (λ (l : IndexList). l.room) is ∙ room_is a v c.self.view_is)
    (ap (λ (l : IndexList). map (node_of (set os c.args.new oldest)) l.items) is
    ∙ replaced os c.args.old c.args.new oldest t.0 t.1 once out (omega (arith, fresh.room, c.self.invariant.room)) read
    ∙ ap (λ xs. relocated c.args.old c.args.new (map (node_of os) xs)) (sym t.2)
    ∙ ap (relocated c.args.old c.args.new) (listed_is a v c.self.view_is))

pub invariant_of-self : goal.invariant_of-self
invariant_of-self c =
    let a = c.self.inside in
    let v = c.args.self.now in
    let t = placed c.args.old a.list.items (is_in a v c.self.view_is c.args.old c.requires.listed) in record {
      room = omega (arith, c.self.invariant.room, ap (λ (l : IndexList). l.room) (c.replace.ensures t.0 t.1 t.2), length-set a.oldest.items c.args.new c.index-oldest.result.now);
      falling = subst (λ (w : View). AllPairs (λ x y. y.oldest ≤ x.oldest) w.listed) (sym (returns c))
          (falling-relocate c.args.old c.args.new v.listed (falling_is a v c.self.view_is c.self.invariant));
    }
