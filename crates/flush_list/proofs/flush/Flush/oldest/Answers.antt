use Rattle.std.proofs.Common.{◌≡◌, ◌∙◌, Some, None, map, ap, sym, arith}
use Rattle.std.specs.Option.{option_map}
use Rattle.std.proofs.lemmas.List.{get_or_default}
use Rattle.flush_list.specs.View.{Node, tail_of}
use Rattle.flush_list.specs.Inside.{node_of}
use Rattle.flush_list.proofs.Order.{tail_least}
use Rattle.flush_list.proofs.Frames.{tail_is, tail_none, tail_node}
use Rattle.flush_list.proofs.Kept.{listed_is, falling_is, tail_within}
use Rattle.flush_list.proofs.flush.Flush.oldest.Goals as goal

pub returns-in_err-tail-clause-oldest : goal.returns-in_err-tail-clause-oldest
returns-in_err-tail-clause-oldest c =
    let a = c.self.inside in
    let none = tail_is a.oldest.items None a.list.items ∙ sym c.back.ensures ∙ c.in_err-tail.was in
    c.from_residual.ensures
    ∙ sym (ap (λ xs. option_map (λ (x : Node). x.oldest) (tail_of xs)) (sym (listed_is a c.args.self.now c.self.view_is)) ∙ tail_none (tail_of (map (node_of a.oldest.items) a.list.items)) none)

pub index-requires : goal.index-requires
index-requires c =
    let a = c.self.inside in
    omega (arith, tail_within a c.self.invariant c.stands_in_order.ensures c.in_ok-tail.tail (sym c.back.ensures ∙ c.in_ok-tail.was), a.oldest.ok.0)

pub returns-clause-oldest : goal.returns-clause-oldest
returns-clause-oldest c =
    let a = c.self.inside in
    let os = a.oldest.items in
    let f = c.in_ok-tail.tail in
    ap Some (c.index.ensures ∙ get_or_default os f c.index.result.now 0 (tail_within a c.self.invariant c.stands_in_order.ensures f (sym c.back.ensures ∙ c.in_ok-tail.was)))
    ∙ sym (ap (λ xs. option_map (λ (x : Node). x.oldest) (tail_of xs)) (sym (listed_is a c.args.self.now c.self.view_is))
    ∙ ap (option_map (λ (x : Node). x.oldest)) (tail_node os None a.list.items f (sym c.back.ensures ∙ c.in_ok-tail.was)))

pub returns-clause-least : goal.returns-clause-least
returns-clause-least c =
    let a = c.self.inside in
    let v = c.args.self.now in
    let os = a.oldest.items in
    let f = c.in_ok-tail.tail in
    let read = c.index.ensures ∙ get_or_default os f c.index.result.now 0 (tail_within a c.self.invariant c.stands_in_order.ensures f (sym c.back.ensures ∙ c.in_ok-tail.was)) in
    let tail : tail_of v.listed ≡ Some (node_of os f) = ap tail_of (sym (listed_is a v c.self.view_is)) ∙ tail_node os None a.list.items f (sym c.back.ensures ∙ c.in_ok-tail.was) in
    let least = tail_least v.listed (node_of os f) (falling_is a v c.self.view_is c.self.invariant) tail in
    λ k d l. omega (arith, read, least k d l)
