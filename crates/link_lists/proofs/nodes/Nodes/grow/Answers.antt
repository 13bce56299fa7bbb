use Rattle.std.proofs.Common.{◌-◌, ◌*◌, ◌∙◌, ◌++◌, List, ap, subst, arith}
use Rattle.std.specs.Prelude.{replicate}
use Rattle.std.proofs.lemmas.List.{take_all}
use Rattle.std.proofs.Math.Nat.{mul-le-mul_right}
use Rattle.link_lists.specs.declared.nodes.Link.{Link}
use Rattle.link_lists.specs.Grid.{Grid, unlinked}
use Rattle.link_lists.specs.Chains.{GrewOnly}
use Rattle.link_lists.proofs.Grids.{grown_by}
use Rattle.link_lists.proofs.nodes.Nodes.grow.Goals as goal

pub returns-in_ok-resize-clause-grown : goal.returns-in_ok-resize-clause-grown
returns-in_ok-resize-clause-grown c =
    let a = c.self.inside in
    let links = c.args.n * a.pairs in
    let more = mul-le-mul_right {m = a.count} {n = c.args.n} a.pairs (omega (arith, c.if-n-self.true)) in
    let all = take_all links a.links.items (omega (arith, more, c.self.invariant)) in
    let new = c.in_ok-resize.ensures.items ∙ ap (λ (xs : List Link). xs ++ replicate (links - a.links.len) unlinked) all in
    let made : Grid = record { pairs = a.pairs; nodes = c.args.n; links = c.resize.new.self.items } in
    subst (λ (g : Grid). GrewOnly g made c.args.n) c.self.view_is
    (grown_by _ made c.args.n (links - a.links.len) (omega (arith, c.if-n-self.true))
    (ap (λ (xs : List Link). let g : Grid = record { pairs = a.pairs; nodes = c.args.n; links = xs } in g) new))
