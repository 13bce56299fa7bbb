use Rattle.std.proofs.Common.{◌∙◌, ◌≤◌, max, length, refl, sym, ap, arith, rules}
use Rattle.link_lists.specs.IndexLists.{IndexList}
use Rattle.midpoint_lru.specs.Parts.{Parts}
use Rattle.std.proofs.Math.Nat.{max-le}
use Rattle.midpoint_lru.proofs.Kept.{room_is, old_is, more, seen, seen_still, kept}
use Rattle.midpoint_lru.proofs.sublists.Sublists.grow.Goals as goal

pub returns-clause-ok : goal.returns-clause-ok
returns-clause-ok c =
    let p = c.args.self.now in
    seen _ _ _ _ c.self.inside.old_len _ (more c.self.inside c.args.self.now c.self.view_is c.self.invariant c.lengthen.new.members c.grow.new.self c.lengthen.ensures.longer c.lengthen.ensures.kept (ap (λ (l : IndexList). l.items) c.in_ok-grow.ensures.ok)) (ap (λ (l : IndexList). l.room) c.in_ok-grow.ensures.ok)
    ∙ ap (λ r. let w : Parts = record { listed = p.listed; old_len = c.self.inside.old_len; room = max r c.args.frames } in w) (sym (room_is c.self.inside c.args.self.now c.self.view_is c.self.invariant))
    ∙ ap (λ n. let w : Parts = record { listed = p.listed; old_len = n; room = max p.room c.args.frames } in w) (sym (old_is c.self.inside c.args.self.now c.self.view_is c.self.invariant))

pub invariant_of-self-2 : goal.invariant_of-self-2
invariant_of-self-2 c =
    let most : max c.self.inside.list.room c.args.frames ≤ length c.lengthen.new.members.items = max-le (omega (arith, c.self.invariant.room, c.lengthen.ensures.longer)) c.in_ok-lengthen.ensures.long in
    kept _ _ _ _ _ (more c.self.inside c.args.self.now c.self.view_is c.self.invariant c.lengthen.new.members c.grow.new.self c.lengthen.ensures.longer c.lengthen.ensures.kept (ap (λ (l : IndexList). l.items) c.in_ok-grow.ensures.ok)) (omega (arith, most, ap (λ (l : IndexList). l.room) c.in_ok-grow.ensures.ok))

pub returns-in_err-lengthen-clause-err : goal.returns-in_err-lengthen-clause-err
returns-in_err-lengthen-clause-err c =
    let same = seen_still c.self.inside c.args.self.now c.self.view_is _ _ _ _ (more c.self.inside c.args.self.now c.self.view_is c.self.invariant c.lengthen.new.members c.self.inside.list c.lengthen.ensures.longer c.lengthen.ensures.kept refl) refl in
    search (rules, same)

pub invariant_of-self : goal.invariant_of-self
invariant_of-self c = kept _ _ _ _ _ (more c.self.inside c.args.self.now c.self.view_is c.self.invariant c.lengthen.new.members c.self.inside.list c.lengthen.ensures.longer c.lengthen.ensures.kept refl) (omega (arith, c.self.invariant.room, c.lengthen.ensures.longer))

pub returns-in_err-grow-clause-err : goal.returns-in_err-grow-clause-err
returns-in_err-grow-clause-err c =
    let same = seen_still c.self.inside c.args.self.now c.self.view_is _ _ _ _ (more c.self.inside c.args.self.now c.self.view_is c.self.invariant c.lengthen.new.members c.grow.new.self c.lengthen.ensures.longer c.lengthen.ensures.kept (ap (λ (l : IndexList). l.items) c.in_err-grow.ensures.err)) (ap (λ (l : IndexList). l.room) c.in_err-grow.ensures.err) in
    search (rules, same)

pub invariant_of-self-in_err-grow : goal.invariant_of-self-in_err-grow
invariant_of-self-in_err-grow c = kept _ _ _ _ _ (more c.self.inside c.args.self.now c.self.view_is c.self.invariant c.lengthen.new.members c.grow.new.self c.lengthen.ensures.longer c.lengthen.ensures.kept (ap (λ (l : IndexList). l.items) c.in_err-grow.ensures.err))
    (omega (arith, c.self.invariant.room, c.lengthen.ensures.longer, ap (λ (l : IndexList). l.room) c.in_err-grow.ensures.err))
