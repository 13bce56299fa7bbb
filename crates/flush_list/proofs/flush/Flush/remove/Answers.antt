use Rattle.std.proofs.Common.{◌∙◌, ◌≤◌, ℕ, List, map, sym, ap, subst, arith}
use Rattle.std.specs.Prelude.{AllPairs}
use Rattle.link_lists.specs.Grid.{times}
use Rattle.link_lists.specs.IndexLists.{IndexList}
use Rattle.link_lists.proofs.Times.{placed, none_before, none_behind}
use Rattle.flush_list.specs.View.{View, without}
use Rattle.flush_list.specs.Inside.{node_of}
use Rattle.flush_list.proofs.Order.{falling-remove}
use Rattle.flush_list.proofs.Frames.{removed}
use Rattle.flush_list.proofs.Kept.{listed_is, room_is, falling_is, is_in, seen}
use Rattle.flush_list.proofs.flush.Flush.remove.Goals as goal

pub remove-requires : goal.remove-requires
remove-requires c = is_in c.self.inside c.args.self.now c.self.view_is c.args.frame c.requires

pub returns : goal.returns
returns c =
    let a = c.self.inside in
    let v = c.args.self.now in
    let f = c.args.frame in
    let t = placed f a.list.items (is_in a v c.self.view_is f c.requires) in
    let once = subst (λ (xs : List ℕ). times f xs ≤ 1) t.2 (c.stands_in_order.ensures.once f) in
    let left = c.remove.ensures t.0 t.1 t.2 in
    let g = node_of a.oldest.items in
    seen v a.oldest.items c.remove.new.self _ (ap (λ (l : IndexList). l.room) left ∙ room_is a v c.self.view_is)
    (ap (λ (l : IndexList). map g l.items) left
    ∙ sym (removed a.oldest.items f t.0 t.1 (none_before f t.0 t.1 once) (none_behind f t.0 t.1 once))
    ∙ ap (λ xs. without f (map g xs)) (sym t.2)
    ∙ ap (without f) (listed_is a v c.self.view_is))

pub invariant_of-self : goal.invariant_of-self
invariant_of-self c =
    let a = c.self.inside in
    let v = c.args.self.now in
    let t = placed c.args.frame a.list.items (is_in a v c.self.view_is c.args.frame c.requires) in record {
      room = omega (arith, c.self.invariant.room, ap (λ (l : IndexList). l.room) (c.remove.ensures t.0 t.1 t.2));
      falling = subst (λ (w : View). AllPairs (λ x y. y.oldest ≤ x.oldest) w.listed) (sym (returns c))
          (falling-remove c.args.frame v.listed (falling_is a v c.self.view_is c.self.invariant));
    }
