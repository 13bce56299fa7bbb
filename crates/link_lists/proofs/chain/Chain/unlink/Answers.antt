use Rattle.std.proofs.Common.{◌++◌, ◌∷◌, Some, ap, subst}
use Rattle.link_lists.specs.declared.nodes.Link.{Link}
use Rattle.link_lists.specs.Grid.{Leaves}
use Rattle.link_lists.specs.Chains.{Ends, last}
use Rattle.link_lists.specs.Cuts.{IsCut}
use Rattle.link_lists.proofs.Written.{keeps_from, leaves_more, leaves_then}
use Rattle.link_lists.proofs.Cuts.{chain_without, cut_chain, one_list, node_within, neighbours, none_left}
use Rattle.link_lists.proofs.chain.Chain.unlink.Goals as goal

pub link-link-requires-clause-node : goal.link-link-requires-clause-node
link-link-requires-clause-node c = let p = c.requires.present in node_within c.args.nodes.now c.args.self.now p.0 p.1 c.args.node p.2

pub set_next-requires : goal.set_next-requires
set_next-requires c =
    let p = c.requires.present in
    let link = neighbours c.args.nodes.now c.args.self.now p.0 p.1 c.args.node _ _ p.2 (ap (λ (s : Ends). s.pair) c.self.view_is) c.link-link.ensures in
    (p.0, p.1, Some c.args.node, Some c.args.node, chain_without c.args.nodes.now c.args.self.now p.0 p.1 c.args.node p.2, ap (λ (l : Link). l.prev) link)

pub set_prev-requires : goal.set_prev-requires
set_prev-requires c =
    let p = c.requires.present in
    let link = neighbours c.args.nodes.now c.args.self.now p.0 p.1 c.args.node _ _ p.2 (ap (λ (s : Ends). s.pair) c.self.view_is) c.link-link.ensures in
    let whole = chain_without c.args.nodes.now c.args.self.now p.0 p.1 c.args.node p.2 in
    (p.0, p.1, c.link-link.result.next, Some c.args.node, c.set_next.ensures.cut p.0 p.1 _ _ whole (ap (λ (l : Link). l.prev) link), ap (λ (l : Link). l.next) link)

pub returns-clause-list : goal.returns-clause-list
returns-clause-list c = λ front back k.
    let link = neighbours c.args.nodes.now c.args.self.now front back c.args.node _ _ k (ap (λ (s : Ends). s.pair) c.self.view_is) c.link-link.ensures in
    let prev = ap (λ (l : Link). l.prev) link in
    let next = ap (λ (l : Link). l.next) link in
    let whole = chain_without c.args.nodes.now c.args.self.now front back c.args.node k in
    let cut = c.set_prev.ensures.cut front back _ _ (c.set_next.ensures.cut front back _ _ whole prev) next in
    cut_chain c.set_prev.new.nodes c.set_prev.new.self front back
    (subst (λ a. IsCut c.set_prev.new.nodes c.set_prev.new.self front back a (last front)) next
    (subst (λ b. IsCut c.set_prev.new.nodes c.set_prev.new.self front back c.link-link.result.next b) prev cut))

pub returns-clause-others : goal.returns-clause-others
returns-clause-others c = λ xs k.
    let p = c.requires.present in
    let link = neighbours c.args.nodes.now c.args.self.now p.0 p.1 c.args.node _ _ p.2 (ap (λ (s : Ends). s.pair) c.self.view_is) c.link-link.ensures in
    let prev = ap (λ (l : Link). l.prev) link in
    let next = ap (λ (l : Link). l.next) link in
    let whole = chain_without c.args.nodes.now c.args.self.now p.0 p.1 c.args.node p.2 in
    let led = c.set_next.ensures.leaves p.0 p.1 _ _ whole prev in
    let back = subst (λ i. Leaves i c.set_next.new.nodes c.set_prev.new.nodes (p.0 ++ p.1)) c.set_next.ensures.pair (c.set_prev.ensures.leaves p.0 p.1 _ _ (c.set_next.ensures.cut p.0 p.1 _ _ whole prev) next) in
    let both = leaves_then c.args.self.now.pair c.args.nodes.now c.set_next.new.nodes c.set_prev.new.nodes (p.0 ++ p.1) led back in
    let all = p.0 ++ c.args.node ∷ p.1 in
    keeps_from c.args.self.now.pair c.args.nodes.now c.set_prev.new.nodes xs
    (subst (λ ys. Leaves c.args.self.now.pair c.args.nodes.now c.set_prev.new.nodes ys) (one_list c.args.nodes.now c.args.self.now all xs p.2 k)
    (leaves_more c.args.self.now.pair c.args.nodes.now c.set_prev.new.nodes (p.0 ++ p.1) all (λ y none. none_left p.0 p.1 c.args.node y none) both))
