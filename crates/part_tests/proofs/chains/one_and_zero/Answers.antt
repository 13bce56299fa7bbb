use Rattle.std.proofs.Common.{◌≡◌, ◌∙◌, ◌<◌, ◌∷◌, [], ap, arith}
use Rattle.std.proofs.Math.Nat.{max-eq_right, le-max_right}
use Rattle.link_lists.specs.Grid.{Grid, times}
use Rattle.link_lists.specs.Chains.{IsChain}
use Rattle.link_lists.proofs.Times.{times_past}
use Rattle.part_tests.proofs.chains.one_and_zero.Goals as goal

pub push_back-requires-2-clause-exists : goal.push_back-requires-2-clause-exists
push_back-requires-2-clause-exists c =
    let grown = c.in_ok-grow.ensures.grown in
    let none = c.new-chain.ensures.empty c.grow.new.self (omega (arith, grown.pairs, ap (λ (g : Grid). g.pairs) c.new-nodes.ensures)) in
    omega (arith, (c.push_back.ensures.others [] none).nodes, grown.nodes, le-max_right c.new-nodes.result.nodes 2)

pub push_back-requires-2-clause-absent : goal.push_back-requires-2-clause-absent
push_back-requires-2-clause-absent c =
    let grown = c.in_ok-grow.ensures.grown in
    let none = c.new-chain.ensures.empty c.grow.new.self (omega (arith, grown.pairs, ap (λ (g : Grid). g.pairs) c.new-nodes.ensures)) in
    (1 ∷ [], c.push_back.ensures.list [] none, times_past 0 1 [] (λ e. absurd (omega (arith, e))))

pub returns : goal.returns
returns c =
    let grown = c.in_ok-grow.ensures.grown in
    let none = c.new-chain.ensures.empty c.grow.new.self (omega (arith, grown.pairs, ap (λ (g : Grid). g.pairs) c.new-nodes.ensures)) in
    let one = c.push_back.ensures.list [] none in
    let two = max-eq_right {n = c.new-nodes.result.nodes} {m = 2} (omega (arith, ap (λ (g : Grid). g.nodes) c.new-nodes.ensures)) in (
      omega (arith, (c.push_back-2.ensures.others (1 ∷ []) one).nodes, (c.push_back.ensures.others [] none).nodes, grown.nodes, two),
      c.push_back-2.ensures.list (1 ∷ []) one,
    )
