use Rattle.std.proofs.Common.{◌≡◌, ◌∙◌, ◌∷◌, [], None, refl, sym, ap, subst}
use Rattle.std.proofs.lemmas.List.{append-nil}
use Rattle.link_lists.specs.Grid.{times, Leaves}
use Rattle.link_lists.specs.Chains.{Ends, IsChain, last}
use Rattle.link_lists.proofs.Written.{keeps_from}
use Rattle.link_lists.proofs.Cuts.{chain_cut, one_list}
use Rattle.link_lists.proofs.chain.Chain.push_back.Goals as goal

pub join-requires-clause-cut : goal.join-requires-clause-cut
join-requires-clause-cut c =
    let r = c.requires.absent in
    let whole = sym (append-nil r.0) in (
      r.0,
      [],
      None,
      last r.0,
      chain_cut c.args.nodes.now c.args.self.now r.0 [] (subst (λ ys. IsChain c.args.nodes.now c.args.self.now ys) whole r.1),
      ap (λ (s : Ends). s.tail) c.self.view_is ∙ r.1.tail,
      refl,
      subst (λ ys. times c.args.node ys ≡ 0) whole r.2,
    )

pub returns-clause-list : goal.returns-clause-list
returns-clause-list c = λ xs k.
    let r = c.requires.absent in
    let whole = sym (append-nil xs) in
    let none = subst (λ ys. times c.args.node ys ≡ 0) (one_list c.args.nodes.now c.args.self.now r.0 xs r.1 k ∙ whole) r.2 in
    c.join.ensures.list xs [] None (last xs) (chain_cut c.args.nodes.now c.args.self.now xs [] (subst (λ ys. IsChain c.args.nodes.now c.args.self.now ys) whole k)) (ap (λ (s : Ends). s.tail) c.self.view_is ∙ k.tail) refl none

pub returns-clause-others : goal.returns-clause-others
returns-clause-others c = λ xs k.
    let whole = sym (append-nil xs) in
    keeps_from c.args.self.now.pair c.args.nodes.now c.join.new.nodes (c.args.node ∷ xs)
    (subst (λ ys. Leaves c.args.self.now.pair c.args.nodes.now c.join.new.nodes (c.args.node ∷ ys)) (append-nil xs)
    (c.join.ensures.leaves xs [] None (last xs) (chain_cut c.args.nodes.now c.args.self.now xs [] (subst (λ ys. IsChain c.args.nodes.now c.args.self.now ys) whole k)) (ap (λ (s : Ends). s.tail) c.self.view_is ∙ k.tail) refl))
