use Rattle.std.proofs.Common.{◌≡◌, ◌<◌, ◌+◌, ◌*◌, length, set, subst, sym, refl}
use Rattle.link_lists.specs.Grid.{Grid, IsLinked}
use Rattle.link_lists.proofs.Grids.{written_at}
use Rattle.link_lists.proofs.nodes.Nodes.put.Goals as goal

pub returns : goal.returns
returns c =
    let there = c.self.view_is in
    let a = c.self.inside in
    let new : Grid = record { pairs = a.pairs; nodes = a.count; links = set a.links.items c.place-place.result c.args.link } in
    subst (λ (g : Grid). IsLinked g new c.args.pair c.args.node c.args.link) there
    (written_at _ new c.args.pair c.args.node c.place-place.result c.args.link refl
    (subst (λ (g : Grid). c.args.pair < g.pairs) (sym there) c.requires.pair)
    (subst (λ (g : Grid). c.place-place.result ≡ c.args.node * g.pairs + c.args.pair) (sym there) c.place-place.ensures.place)
    (subst (λ (g : Grid). c.place-place.result < length g.links) (sym there) c.place-place.ensures.inside))
