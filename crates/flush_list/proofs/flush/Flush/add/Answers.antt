use Rattle.std.proofs.Common.{◌∙◌, ◌≤◌, ◌∷◌, map, set, sym, ap, subst, arith}
use Rattle.std.specs.Prelude.{AllPairs}
use Rattle.std.proofs.lemmas.List.{length-set}
use Rattle.link_lists.specs.IndexLists.{IndexList}
use Rattle.flush_list.specs.View.{Node, View}
use Rattle.flush_list.specs.Inside.{node_of}
use Rattle.flush_list.proofs.Order.{falling-add}
use Rattle.flush_list.proofs.Frames.{same_nodes, new_node}
use Rattle.flush_list.proofs.Kept.{listed_is, room_is, falling_is, is_new, seen}
use Rattle.flush_list.proofs.flush.Flush.add.Goals as goal

pub push_front-requires : goal.push_front-requires
push_front-requires c = is_new c.self.inside c.args.self.now c.self.view_is c.args.frame c.requires.new

pub returns : goal.returns
returns c =
    let a = c.self.inside in
    let v = c.args.self.now in
    let os = a.oldest.items in
    let os' = set os c.args.frame c.args.oldest in
    let new = is_new a v c.self.view_is c.args.frame c.requires.new in
    let node : Node = record { frame = c.args.frame; oldest = c.args.oldest } in
    seen v os' c.push_front.new.self _ (ap (λ (l : IndexList). l.room) c.push_front.ensures ∙ room_is a v c.self.view_is)
    (ap (λ (l : IndexList). map (node_of os') l.items) c.push_front.ensures
    ∙ ap (λ (y : Node). y ∷ map (node_of os') a.list.items) (new_node os c.args.frame c.args.oldest (omega (arith, new.room, c.self.invariant.room)))
    ∙ ap (λ ys. node ∷ ys) (same_nodes os c.args.frame c.args.oldest a.list.items new.away ∙ listed_is a v c.self.view_is))

pub invariant_of-self : goal.invariant_of-self
invariant_of-self c =
    let a = c.self.inside in
    let v = c.args.self.now in record {
      room = omega (arith, c.self.invariant.room, ap (λ (l : IndexList). l.room) c.push_front.ensures, length-set a.oldest.items c.args.frame c.args.oldest);
      falling = subst (λ (w : View). AllPairs (λ x y. y.oldest ≤ x.oldest) w.listed) (sym (returns c))
          (falling-add c.args.frame c.args.oldest v.listed (falling_is a v c.self.view_is c.self.invariant) c.requires.newest);
    }
