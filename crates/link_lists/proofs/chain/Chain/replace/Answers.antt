use Rattle.std.proofs.Common.{◌≡◌, ◌++◌, ◌∷◌, ℕ, Some, ap, subst, arith}
use Rattle.link_lists.specs.declared.nodes.Link.{Link}
use Rattle.link_lists.specs.Grid.{times, Leaves}
use Rattle.link_lists.specs.Chains.{Ends}
use Rattle.link_lists.proofs.Times.{times-cons}
use Rattle.link_lists.proofs.Written.{keeps_from, leaves_more}
use Rattle.link_lists.proofs.Cuts.{chain_without, one_list, node_within, neighbours, none_left}
use Rattle.link_lists.proofs.chain.Chain.replace.Goals as goal

pub link-link-requires-clause-node : goal.link-link-requires-clause-node
link-link-requires-clause-node c = let p = c.requires.present in node_within c.args.nodes.now c.args.self.now p.0 p.1 c.args.old p.2

pub join-requires-clause-cut : goal.join-requires-clause-cut
join-requires-clause-cut c =
    let p = c.requires.present in
    let r = c.requires.absent in
    let link = neighbours c.args.nodes.now c.args.self.now p.0 p.1 c.args.old _ _ p.2 (ap (λ (s : Ends). s.pair) c.self.view_is) c.link-link.ensures in (
      p.0,
      p.1,
      Some c.args.old,
      Some c.args.old,
      chain_without c.args.nodes.now c.args.self.now p.0 p.1 c.args.old p.2,
      ap (λ (l : Link). l.prev) link,
      ap (λ (l : Link). l.next) link,
      none_left p.0 p.1 c.args.old c.args.new (subst (λ ys. times c.args.new ys ≡ 0) (one_list c.args.nodes.now c.args.self.now r.0 (p.0 ++ c.args.old ∷ p.1) r.1 p.2) r.2),
    )

pub returns-clause-list : goal.returns-clause-list
returns-clause-list c = λ front back k.
    let r = c.requires.absent in
    let link = neighbours c.args.nodes.now c.args.self.now front back c.args.old _ _ k (ap (λ (s : Ends). s.pair) c.self.view_is) c.link-link.ensures in
    let none = subst (λ ys. times c.args.new ys ≡ 0) (one_list c.args.nodes.now c.args.self.now r.0 (front ++ c.args.old ∷ back) r.1 k) r.2 in
    c.join.ensures.list front back (Some c.args.old) (Some c.args.old) (chain_without c.args.nodes.now c.args.self.now front back c.args.old k)
    (ap (λ (l : Link). l.prev) link) (ap (λ (l : Link). l.next) link) (none_left front back c.args.old c.args.new none)

pub returns-clause-others : goal.returns-clause-others
returns-clause-others c = λ xs k.
    let p = c.requires.present in
    let link = neighbours c.args.nodes.now c.args.self.now p.0 p.1 c.args.old _ _ p.2 (ap (λ (s : Ends). s.pair) c.self.view_is) c.link-link.ensures in
    let left = c.args.new ∷ (p.0 ++ p.1) in
    let whole = p.0 ++ c.args.old ∷ p.1 in
    let leaves = c.join.ensures.leaves p.0 p.1 (Some c.args.old) (Some c.args.old) (chain_without c.args.nodes.now c.args.self.now p.0 p.1 c.args.old p.2) (ap (λ (l : Link). l.prev) link) (ap (λ (l : Link). l.next) link) in
    let more : (y : ℕ) → times y (c.args.new ∷ whole) ≡ 0 → times y left ≡ 0
    = λ y none. omega (arith, none, times-cons y c.args.new whole, times-cons y c.args.new (p.0 ++ p.1), none_left p.0 p.1 c.args.old y (omega (arith, none, times-cons y c.args.new whole))) in
    keeps_from c.args.self.now.pair c.args.nodes.now c.join.new.nodes (c.args.new ∷ xs)
    (subst (λ ys. Leaves c.args.self.now.pair c.args.nodes.now c.join.new.nodes (c.args.new ∷ ys)) (one_list c.args.nodes.now c.args.self.now whole xs p.2 k)
    (leaves_more c.args.self.now.pair c.args.nodes.now c.join.new.nodes left (c.args.new ∷ whole) more leaves))
