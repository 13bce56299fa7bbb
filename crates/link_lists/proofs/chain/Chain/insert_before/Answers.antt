use Rattle.std.proofs.Common.{◌≡◌, ◌++◌, ◌∷◌, Some, refl, ap, subst}
use Rattle.link_lists.specs.declared.nodes.Link.{Link}
use Rattle.link_lists.specs.Grid.{times, Leaves}
use Rattle.link_lists.specs.Chains.{Ends, last}
use Rattle.link_lists.proofs.Written.{keeps_from}
use Rattle.link_lists.proofs.Cuts.{chain_cut, one_list, node_within, neighbours}
use Rattle.link_lists.proofs.chain.Chain.insert_before.Goals as goal

pub link-link-requires-clause-node : goal.link-link-requires-clause-node
link-link-requires-clause-node c = let p = c.requires.present in node_within c.args.nodes.now c.args.self.now p.0 p.1 c.args.at p.2

pub join-requires-clause-cut : goal.join-requires-clause-cut
join-requires-clause-cut c =
    let p = c.requires.present in
    let r = c.requires.absent in
    let link = neighbours c.args.nodes.now c.args.self.now p.0 p.1 c.args.at _ _ p.2 (ap (λ (s : Ends). s.pair) c.self.view_is) c.link-link.ensures in (
      p.0,
      c.args.at ∷ p.1,
      Some c.args.at,
      last p.0,
      chain_cut c.args.nodes.now c.args.self.now p.0 (c.args.at ∷ p.1) p.2,
      ap (λ (l : Link). l.prev) link,
      refl,
      subst (λ ys. times c.args.node ys ≡ 0) (one_list c.args.nodes.now c.args.self.now r.0 (p.0 ++ c.args.at ∷ p.1) r.1 p.2) r.2,
    )

pub returns-clause-list : goal.returns-clause-list
returns-clause-list c = λ front back k.
    let r = c.requires.absent in
    let link = neighbours c.args.nodes.now c.args.self.now front back c.args.at _ _ k (ap (λ (s : Ends). s.pair) c.self.view_is) c.link-link.ensures in
    let none = subst (λ ys. times c.args.node ys ≡ 0) (one_list c.args.nodes.now c.args.self.now r.0 (front ++ c.args.at ∷ back) r.1 k) r.2 in
    c.join.ensures.list front (c.args.at ∷ back) (Some c.args.at) (last front) (chain_cut c.args.nodes.now c.args.self.now front (c.args.at ∷ back) k) (ap (λ (l : Link). l.prev) link) refl none

pub returns-clause-others : goal.returns-clause-others
returns-clause-others c = λ xs k.
    let p = c.requires.present in
    let link = neighbours c.args.nodes.now c.args.self.now p.0 p.1 c.args.at _ _ p.2 (ap (λ (s : Ends). s.pair) c.self.view_is) c.link-link.ensures in
    keeps_from c.args.self.now.pair c.args.nodes.now c.join.new.nodes (c.args.node ∷ xs)
    (subst (λ ys. Leaves c.args.self.now.pair c.args.nodes.now c.join.new.nodes (c.args.node ∷ ys)) (one_list c.args.nodes.now c.args.self.now (p.0 ++ c.args.at ∷ p.1) xs p.2 k)
    (c.join.ensures.leaves p.0 (c.args.at ∷ p.1) (Some c.args.at) (last p.0) (chain_cut c.args.nodes.now c.args.self.now p.0 (c.args.at ∷ p.1) p.2) (ap (λ (l : Link). l.prev) link) refl))
