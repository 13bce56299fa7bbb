use Rattle.std.proofs.Common.{◌∙◌, ◌∷◌, [], arith}
use Rattle.link_lists.proofs.Times.{times_past}
use Rattle.part_tests.proofs.chains.more_nodes_leave_the_chain.Goals as goal

pub check-requires-2 : goal.check-requires-2
check-requires-2 g c = c.in_ok-grow.ensures.grown.chains c.in_ok-nodes.chain (1 ∷ 0 ∷ []) c.in_ok-nodes.ensures.1

pub push_back-requires-clause-absent : goal.push_back-requires-clause-absent
push_back-requires-clause-absent g c = (
  1 ∷ 0 ∷ [],
  c.in_ok-grow.ensures.grown.chains c.in_ok-nodes.chain (1 ∷ 0 ∷ []) c.in_ok-nodes.ensures.1,
  times_past 8 1 (0 ∷ []) (λ e. absurd (omega (arith, e))) ∙ times_past 8 0 [] (λ e. absurd (omega (arith, e))),
)
