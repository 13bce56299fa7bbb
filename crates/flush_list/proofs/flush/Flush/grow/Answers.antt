use Rattle.std.proofs.Common.{rules, refl, ◌∙◌, ◌≤◌, max, length, map, ap, arith}
use Rattle.std.proofs.Math.Nat.{max-le}
use Rattle.link_lists.specs.IndexLists.{IndexList}
use Rattle.flush_list.specs.View.{View}
use Rattle.flush_list.specs.Inside.{node_of}
use Rattle.flush_list.proofs.Kept.{listed_is, room_is, nodes_same, kept_longer, seen}
use Rattle.flush_list.proofs.flush.Flush.grow.Goals as goal

pub returns-clause-ok : goal.returns-clause-ok
returns-clause-ok c =
    let a = c.self.inside in
    let v = c.args.self.now in
    let os = c.lengthen.new.oldest.items in
    let grown = c.in_ok-grow.ensures.ok in
    let w : View = record v { room = max v.room c.args.frames } in
    seen w os c.grow.new.self v.listed (ap (λ (l : IndexList). l.room) grown ∙ ap (λ r. max r c.args.frames) (room_is a v c.self.view_is))
    (ap (λ (l : IndexList). map (node_of os) l.items) grown ∙ nodes_same a c.self.invariant c.stands_in_order.ensures os c.lengthen.ensures.kept ∙ listed_is a v c.self.view_is)

pub returns-in_err-lengthen-clause-err : goal.returns-in_err-lengthen-clause-err
returns-in_err-lengthen-clause-err c =
    let a = c.self.inside in
    let v = c.args.self.now in
    let same = seen v c.lengthen.new.oldest.items a.list v.listed (room_is a v c.self.view_is)
    (nodes_same a c.self.invariant c.stands_in_order.ensures c.lengthen.new.oldest.items c.lengthen.ensures.kept ∙ listed_is a v c.self.view_is) in
    search (rules, same)

pub returns-in_err-grow-clause-err : goal.returns-in_err-grow-clause-err
returns-in_err-grow-clause-err c =
    let a = c.self.inside in
    let v = c.args.self.now in
    let os = c.lengthen.new.oldest.items in
    let left = c.in_err-grow.ensures.err in
    let same = seen v os c.grow.new.self v.listed (ap (λ (l : IndexList). l.room) left ∙ room_is a v c.self.view_is)
    (ap (λ (l : IndexList). map (node_of os) l.items) left ∙ nodes_same a c.self.invariant c.stands_in_order.ensures os c.lengthen.ensures.kept ∙ listed_is a v c.self.view_is) in
    search (rules, same)

pub invariant_of-self : goal.invariant_of-self
invariant_of-self c =
    let k = c.self.invariant in
    kept_longer c.self.inside k c.stands_in_order.ensures c.lengthen.new.oldest c.self.inside.list c.lengthen.ensures.kept refl (omega (arith, k.room, c.lengthen.ensures.longer))

pub invariant_of-self-in_err-grow : goal.invariant_of-self-in_err-grow
invariant_of-self-in_err-grow c =
    let k = c.self.invariant in
    let left = c.in_err-grow.ensures.err in
    kept_longer c.self.inside k c.stands_in_order.ensures c.lengthen.new.oldest c.grow.new.self c.lengthen.ensures.kept (ap (λ (l : IndexList). l.items) left)
    (omega (arith, k.room, c.lengthen.ensures.longer, ap (λ (l : IndexList). l.room) left))

pub invariant_of-self-2 : goal.invariant_of-self-2
invariant_of-self-2 c =
    let k = c.self.invariant in
    let grown = c.in_ok-grow.ensures.ok in
    let most : max c.self.inside.list.room c.args.frames ≤ length c.lengthen.new.oldest.items = max-le (omega (arith, k.room, c.lengthen.ensures.longer)) c.in_ok-lengthen.ensures.long in
    kept_longer c.self.inside k c.stands_in_order.ensures c.lengthen.new.oldest c.grow.new.self c.lengthen.ensures.kept (ap (λ (l : IndexList). l.items) grown)
    (omega (arith, most, ap (λ (l : IndexList). l.room) grown))
