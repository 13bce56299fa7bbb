use Rattle.std.proofs.Common.{◌≡◌, ◌∙◌, ◌==◌, ◌-◌, ◌++◌, ℕ, Bool, false, true, cond, not, nat_lt, sym, ap, subst, arith}
use Rattle.std.specs.Prelude.{remove}
use Rattle.link_lists.specs.IndexLists.{IndexList}
use Rattle.link_lists.proofs.Times.{placed}
use Rattle.page_ids.specs.Midpoint.{place_of}
use Rattle.midpoint_lru.specs.Parts.{Parts, young, old_without}
use Rattle.midpoint_lru.proofs.Steps.{Leaves, without, old_counted, in_list}
use Rattle.midpoint_lru.proofs.Kept.{list_is, room_is, old_is, is_in, has, within, mark_is, counts_as, seen, kept}
use Rattle.midpoint_lru.proofs.sublists.Sublists.take.Goals as goal

less_by : (b : Bool) (n : ℕ) → n - cond (not b) 1 0 ≡ cond b n (n - 1)
less_by true n = omega arith
less_by false n = omega arith

pub next-next-requires : goal.next-next-requires
next-next-requires c = has c.self.inside c.args.self.now c.self.view_is c.self.invariant c.args.frame c.requires

pub remove-requires : goal.remove-requires
remove-requires c = has c.self.inside c.args.self.now c.self.view_is c.self.invariant c.args.frame c.requires

pub index-requires : goal.index-requires
index-requires c = within c.self.inside c.args.self.now c.self.view_is c.self.invariant c.args.frame c.requires

pub overflow_sub-self : goal.overflow_sub-self
overflow_sub-self c =
    let a = c.self.inside in
    let k = c.self.invariant in
    let f = c.args.frame in
    let mark = counts_as a c.args.self.now c.self.view_is k f c.requires c.index.result.now c.index.ensures c.from.result c.from.ensures in
    omega (arith, mark, old_counted a.list a.list a.members.items a.first_old k.young k.old k.are f (is_in a c.args.self.now c.self.view_is k f c.requires), k.share)

-- what is left, with the old length that the code makes
left : (c : goal.After-stands_in_order) → Leaves c.remove.new.self c.self.inside.members.items c.instead-self-inside.result
    (remove c.args.self.now.listed (place_of ◌==◌ c.args.frame c.args.self.now.listed)) (c.self.inside.old_len - c.from.result)
left c =
    let a = c.self.inside in
    let k = c.self.invariant in
    let f = c.args.frame in
    let ms = a.members.items in
    let mark = counts_as a c.args.self.now c.self.view_is k f c.requires c.index.result.now c.index.ensures c.from.result c.from.ensures in
    subst (λ ys. Leaves c.remove.new.self ms c.instead-self-inside.result (remove ys (place_of ◌==◌ f ys)) (a.old_len - c.from.result)) (list_is a c.args.self.now c.self.view_is k)
    (without a.list c.remove.new.self ms a.first_old k.young k.old k.are f c.instead-self-inside.result c.next-next.result a.old_len k.share
    (λ front back w. c.next-next.ensures front back w.is) c.instead-self-inside.ensures
    (λ front back w. in_list c.remove.new.self (front ++ back) c.stands_in_order.ensures (ap (λ (l : IndexList). l.items) (c.remove.ensures front back w.is)))
    (is_in a c.args.self.now c.self.view_is k f c.requires) (a.old_len - c.from.result) (ap (λ n. a.old_len - n) mark))

room_left : (c : goal.After-stands_in_order) → c.remove.new.self.room ≡ c.self.inside.list.room
room_left c =
    let t = placed c.args.frame c.self.inside.list.items (has c.self.inside c.args.self.now c.self.view_is c.self.invariant c.args.frame c.requires) in
    ap (λ (l : IndexList). l.room) (c.remove.ensures t.0 t.1 t.2)

pub returns : goal.returns
returns c =
    let a = c.self.inside in
    let p = c.args.self.now in
    let k = c.self.invariant in
    let f = c.args.frame in
    let mark = counts_as a p c.self.view_is k f c.requires c.index.result.now c.index.ensures c.from.result c.from.ensures in
    let i = place_of ◌==◌ f p.listed in
    let less : a.old_len - c.from.result ≡ old_without p i =
    ap (λ n. a.old_len - n) (mark ∙ ap {B = ℕ} (λ (m : Bool). cond m 1 0) (mark_is a p c.self.view_is k f c.requires))
    ∙ less_by (nat_lt i (young p)) a.old_len ∙ ap (λ n. cond (nat_lt i (young p)) n (n - 1)) (sym (old_is a p c.self.view_is k)) in
    seen _ _ _ _ (a.old_len - c.from.result) p.room (left c) (room_left c ∙ sym (room_is a p c.self.view_is k))
    ∙ ap (λ n. let w : Parts = record { listed = remove p.listed i; old_len = n; room = p.room } in w) less

pub invariant_of-self : goal.invariant_of-self
invariant_of-self c = kept _ _ _ _ _ (left c) (omega (arith, c.self.invariant.room, room_left c))
