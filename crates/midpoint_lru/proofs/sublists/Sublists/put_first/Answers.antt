use Rattle.std.proofs.Common.{◌∙◌, ◌++◌, ◌∷◌, ℕ, false, set, refl, ap, subst, arith}
use Rattle.std.proofs.lemmas.List.{length-set}
use Rattle.link_lists.specs.IndexLists.{IndexList}
use Rattle.page_ids.specs.Midpoint.{Listed}
use Rattle.midpoint_lru.specs.declared.sublists.Member.{Member}
use Rattle.midpoint_lru.proofs.Steps.{Leaves, with_first, in_list}
use Rattle.midpoint_lru.proofs.Kept.{list_is, room_is, is_out, is_new, seen_still, kept}
use Rattle.midpoint_lru.proofs.sublists.Sublists.put_first.Goals as goal

pub push_front-requires : goal.push_front-requires
push_front-requires c = is_new c.self.inside c.args.self.now c.self.view_is c.self.invariant c.args.frame c.requires

left : (c : goal.After-stands_in_order) → let m : Member = record { first = c.args.first; since = c.args.since; is_old = false } in
    Leaves c.push_front.new.self (set c.self.inside.members.items c.args.frame m) c.self.inside.first_old
    (record { key = c.args.frame; first = c.args.first; since = c.args.since } ∷ c.args.self.now.listed) c.self.inside.old_len
left c =
    let a = c.self.inside in
    let p = c.args.self.now in
    let k = c.self.invariant in
    let f = c.args.frame in
    let m : Member = record { first = c.args.first; since = c.args.since; is_old = false } in
    let node : Listed ℕ = record { key = f; first = c.args.first; since = c.args.since } in
    let ms = a.members.items in
    let whole = in_list c.push_front.new.self (f ∷ k.young ++ k.old) c.stands_in_order.ensures (ap (λ (l : IndexList). l.items) c.push_front.ensures ∙ ap (λ ys. f ∷ ys) k.are.whole.is) in
    subst (λ ys. Leaves c.push_front.new.self (set ms f m) a.first_old (node ∷ ys) a.old_len) (list_is a p c.self.view_is k)
    (with_first a.list c.push_front.new.self ms a.first_old k.young k.old k.are f m a.old_len (omega (arith, c.requires.room, room_is a p c.self.view_is k, k.room)) (is_out a p c.self.view_is k f c.requires.away) refl k.share whole)

pub returns : goal.returns
returns c = seen_still c.self.inside c.args.self.now c.self.view_is _ _ _ _ (left c) (ap (λ (l : IndexList). l.room) c.push_front.ensures)

pub invariant_of-self : goal.invariant_of-self
invariant_of-self c = kept _ _ _ _ _ (left c) (omega (arith, c.self.invariant.room, ap (λ (l : IndexList). l.room) c.push_front.ensures, length-set c.self.inside.members.items c.args.frame (record { first = c.args.first; since = c.args.since; is_old = false })))
