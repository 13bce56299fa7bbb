use Rattle.std.proofs.Common.{◌≡◌, ◌∙◌, ◌∷◌, [], None, refl, ap, subst}
use Rattle.link_lists.specs.Grid.{times}
use Rattle.link_lists.specs.Chains.{Ends, first}
use Rattle.link_lists.proofs.Written.{keeps_from}
use Rattle.link_lists.proofs.Cuts.{chain_cut, one_list}
use Rattle.link_lists.proofs.chain.Chain.push_front.Goals as goal

pub join-requires-clause-cut : goal.join-requires-clause-cut
join-requires-clause-cut c =
    let r = c.requires.absent in
    ([], r.0, first r.0, None, chain_cut c.args.nodes.now c.args.self.now [] r.0 r.1, refl, ap (λ (s : Ends). s.head) c.self.view_is ∙ r.1.head, r.2)

pub returns-clause-list : goal.returns-clause-list
returns-clause-list c = λ xs k.
    let r = c.requires.absent in
    let none = subst (λ ys. times c.args.node ys ≡ 0) (one_list c.args.nodes.now c.args.self.now r.0 xs r.1 k) r.2 in
    c.join.ensures.list [] xs (first xs) None (chain_cut c.args.nodes.now c.args.self.now [] xs k) refl (ap (λ (s : Ends). s.head) c.self.view_is ∙ k.head) none

pub returns-clause-others : goal.returns-clause-others
returns-clause-others c = λ xs k.
    keeps_from c.args.self.now.pair c.args.nodes.now c.join.new.nodes (c.args.node ∷ xs)
    (c.join.ensures.leaves [] xs (first xs) None (chain_cut c.args.nodes.now c.args.self.now [] xs k) refl (ap (λ (s : Ends). s.head) c.self.view_is ∙ k.head))
