use Rattle.std.proofs.Common.{◌<◌, ◌∙◌, ◌++◌, ◌∷◌, [], Some, sym, ap, subst, arith}
use Rattle.link_lists.specs.Grid.{Leaves}
use Rattle.link_lists.specs.Chains.{Ends}
use Rattle.link_lists.proofs.Written.{link_written, leaves_joined}
use Rattle.link_lists.proofs.Cuts.{cut_with}
use Rattle.link_lists.proofs.chain.Chain.join.Goals as goal

pub set_prev-requires : goal.set_prev-requires
set_prev-requires c =
    let r = c.requires.cut in
    (r.0, r.1, Some c.args.node, r.3, c.set_next.ensures.cut r.0 r.1 r.2 r.3 r.4 r.5, r.6)

pub put-requires-clause-pair : goal.put-requires-clause-pair
put-requires-clause-pair c =
    let r = c.requires.cut in
    let cut = c.set_prev.ensures.cut r.0 r.1 _ r.3 (c.set_next.ensures.cut r.0 r.1 r.2 r.3 r.4 r.5) r.6 in
    subst (λ i. i < c.set_prev.new.nodes.pairs) (sym (ap (λ (s : Ends). s.pair) c.self.view_is)) cut.pair

pub put-requires-clause-node : goal.put-requires-clause-node
put-requires-clause-node c =
    let r = c.requires.cut in
    let first = c.set_next.ensures.leaves r.0 r.1 r.2 r.3 r.4 r.5 in
    let second = c.set_prev.ensures.leaves r.0 r.1 _ r.3 (c.set_next.ensures.cut r.0 r.1 r.2 r.3 r.4 r.5) r.6 in
    omega (arith, c.requires.exists, first.nodes, second.nodes)

pub returns-clause-list : goal.returns-clause-list
returns-clause-list c = λ front back a b k prev next none.
    let led = c.set_next.ensures.cut front back a b k prev in
    let cut = c.set_prev.ensures.cut front back _ b led next in
    let first = c.set_next.ensures.leaves front back a b k prev in
    let second = c.set_prev.ensures.leaves front back _ b led next in
    cut_with c.set_prev.new.nodes c.put.new.self c.set_prev.new.self front back c.args.node (omega (arith, c.requires.exists, first.nodes, second.nodes)) cut
    (link_written c.set_prev.new.nodes c.put.new.self _ _ c.args.node _ _ _ _ (ap (λ (s : Ends). s.pair) c.self.view_is) prev next c.put.ensures)
    none

pub returns-clause-leaves : goal.returns-clause-leaves
returns-clause-leaves c = λ front back a b k prev next.
    let led = c.set_next.ensures.cut front back a b k prev in
    let pair = ap (λ (s : Ends). s.pair) c.self.view_is ∙ c.set_prev.ensures.pair ∙ c.set_next.ensures.pair in
    leaves_joined c.args.self.now.pair c.args.node c.args.nodes.now c.set_next.new.nodes c.set_prev.new.nodes c.put.new.self (front ++ back)
    (c.set_next.ensures.leaves front back a b k prev)
    (subst (λ p. Leaves p c.set_next.new.nodes c.set_prev.new.nodes (front ++ back)) c.set_next.ensures.pair (c.set_prev.ensures.leaves front back _ b led next))
    (subst (λ p. Leaves p c.set_prev.new.nodes c.put.new.self (c.args.node ∷ [])) pair c.put.ensures.leaves)
