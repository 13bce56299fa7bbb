use Rattle.std.proofs.Common.{ap}
use Rattle.link_lists.specs.declared.nodes.Link.{Link}
use Rattle.link_lists.specs.Chains.{Ends}
use Rattle.link_lists.proofs.Cuts.{node_within, neighbours}
use Rattle.link_lists.proofs.chain.Chain.prev.Goals as goal

pub link-requires-clause-node : goal.link-requires-clause-node
link-requires-clause-node c = let p = c.requires.present in node_within c.args.nodes.now c.args.self.now p.0 p.1 c.args.node p.2

pub returns : goal.returns
returns c = λ front back k.
    ap (λ (l : Link). l.prev) (neighbours c.args.nodes.now c.args.self.now front back c.args.node _ _ k (ap (λ (s : Ends). s.pair) c.self.view_is) c.link.ensures)
