use Rattle.std.proofs.Common.{◌≡◌, ◌∙◌, ◌+◌, None, length, ap, sym, subst}
use Rattle.std.specs.Prelude.{IfSome}
use Rattle.std.specs.Option.{option_map}
use Rattle.flush_list.specs.View.{Node, place_of, tail_of}
use Rattle.flush_list.proofs.Frames.{tail_is, tail_place}
use Rattle.flush_list.proofs.Kept.{listed_is}
use Rattle.flush_list.proofs.flush.Flush.tail.Goals as goal

pub returns-clause-tail : goal.returns-clause-tail
returns-clause-tail c =
    let a = c.self.inside in
    c.back.ensures
    ∙ sym (tail_is a.oldest.items None a.list.items)
    ∙ ap (λ xs. option_map (λ (x : Node). x.frame) (tail_of xs)) (listed_is a c.args.self.now c.self.view_is)

pub returns-clause-last : goal.returns-clause-last
returns-clause-last c =
    let a = c.self.inside in
    subst (λ xs. IfSome c.back.result (λ f. place_of f xs + 1 ≡ length xs)) (listed_is a c.args.self.now c.self.view_is)
    (tail_place a.oldest.items a.list.items c.back.result c.stands_in_order.ensures.once c.back.ensures)
