use Rattle.std.proofs.Common.{List, sym, subst}
use Rattle.page_ids.specs.declared.config.Config.{Config}
use Rattle.trail.specs.declared.event.Entry.{Entry}
use Rattle.desk.specs.Behind.{IsBehind}
use Rattle.desk.proofs.Behind.{made, behind_open}
use Rattle.desk.proofs.desk.Desk.new.Goals as goal

pub returns-in-Ok-clause-behind : goal.returns-in-Ok-clause-behind
returns-in-Ok-clause-behind g c = λ o frames opening.
    let laws = g.met.D.PageDisk g.world.𝓛 g.world.𝓜 g.world.𝓡 ((λ s x. x), (λ x. x), (λ x. x), λ x. x) in
    let config = c.args.config.now in
    let disk = c.args.disk in
    let H : List Entry → Type 0 = λ h. IsBehind g.D.PageDisk.seen o (made config c.args.instance h disk) frames in
    let C : Config → Type 0 = λ x. IsBehind g.D.PageDisk.seen o (made x c.args.instance c.in-Ok.lists.history disk) frames in
    subst C (sym c.in-Ok.ensures.lists.0) (subst H (sym c.in-Ok.ensures.lists.1) (behind_open g.D.PageDisk.seen o config c.args.instance disk frames
    (λ p silent. laws.silent disk p silent) c.requires.size opening))
