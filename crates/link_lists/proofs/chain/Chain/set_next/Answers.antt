use Rattle.std.proofs.Common.{◌∙◌, ◌++◌, sym, ap, subst}
use Rattle.link_lists.specs.Chains.{Ends}
use Rattle.link_lists.specs.Cuts.{IsCut}
use Rattle.link_lists.specs.Grid.{Leaves}
use Rattle.link_lists.proofs.Written.{next_written}
use Rattle.link_lists.proofs.Cuts.{cut_next, cut_head, last_within, last_leaves}
use Rattle.link_lists.proofs.chain.Chain.set_next.Goals as goal

pub link-link-requires-clause-node : goal.link-link-requires-clause-node
link-link-requires-clause-node c =
    let r = c.requires in
    last_within c.args.nodes.now c.args.self.now r.0 r.1 r.2 r.3 c.in-Some.node r.4 (sym c.in-Some.is ∙ r.5)

pub put-requires-clause-node : goal.put-requires-clause-node
put-requires-clause-node c =
    let r = c.requires in
    last_within c.args.nodes.now c.args.self.now r.0 r.1 r.2 r.3 c.in-Some.node r.4 (sym c.in-Some.is ∙ r.5)

pub returns-in-None-clause-cut : goal.returns-in-None-clause-cut
returns-in-None-clause-cut c = λ front back a b k e.
    cut_head c.args.nodes.now _ front back a b c.args.to (subst (λ (s : Ends). IsCut c.args.nodes.now s front back a b) (sym c.self.view_is) k) (sym c.in-None.is ∙ e)

pub returns-in-Some-clause-cut : goal.returns-in-Some-clause-cut
returns-in-Some-clause-cut c = λ front back a b k e.
    let pair = ap (λ (s : Ends). s.pair) c.self.view_is in
    cut_next c.args.nodes.now c.put.new.self c.args.self.now front back a b c.args.to c.in-Some.node k (sym c.in-Some.is ∙ e)
    (next_written c.args.nodes.now c.put.new.self _ _ c.in-Some.node c.link-link.result c.args.to pair c.link-link.ensures c.put.ensures)

pub returns-in-Some-clause-leaves : goal.returns-in-Some-clause-leaves
returns-in-Some-clause-leaves c = λ front back a b k e.
    let pair = ap (λ (s : Ends). s.pair) c.self.view_is in
    subst (λ p. Leaves p c.args.nodes.now c.put.new.self (front ++ back)) pair
    (last_leaves _ c.args.nodes.now c.put.new.self front back c.in-Some.node (sym c.in-Some.is ∙ e) c.put.ensures.leaves)
