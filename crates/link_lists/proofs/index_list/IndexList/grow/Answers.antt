use Rattle.std.proofs.Common.{◌∙◌, ◌≤◌, max, ap, sym, subst, arith}
use Rattle.std.proofs.Math.Nat.{max-le}
use Rattle.link_lists.specs.Grid.{Grid}
use Rattle.link_lists.specs.Inside.{IsKept}
use Rattle.link_lists.proofs.Lists.{room_is, chain_is, len_is, seen, kept}
use Rattle.link_lists.proofs.index_list.IndexList.grow.Goals as goal

pub returns-clause-ok : goal.returns-clause-ok
returns-clause-ok c =
    let a = c.self.inside in
    let l = c.args.self.now in
    let grown = c.in_ok-grow.ensures.grown in
    seen c.grow.new.self a.chain l.items (grown.chains a.chain l.items (chain_is c.self.view_is c.self.invariant)) _
    (grown.nodes ∙ ap (λ n. max n c.args.n) (room_is c.self.view_is c.self.invariant))

pub invariant_of-self : goal.invariant_of-self
invariant_of-self c =
    let a = c.self.inside in
    subst (λ (g : Grid). IsKept (record { nodes = g; chain = a.chain; len = a.len })) (sym c.in_err-grow.ensures.kept) c.self.invariant

pub invariant_of-self-2 : goal.invariant_of-self-2
invariant_of-self-2 c =
    let a = c.self.inside in
    let l = c.args.self.now in
    let k = c.self.invariant in
    let grown = c.in_ok-grow.ensures.grown in
    let most : max a.nodes.nodes c.args.n ≤ 4294967295 = max-le (omega (arith, k.fits)) (omega (arith, c.ranges.n.fits)) in
    kept c.grow.new.self a.chain l.items (grown.chains a.chain l.items (chain_is c.self.view_is k)) a.len (len_is c.self.view_is k) (omega (arith, grown.nodes, most))
