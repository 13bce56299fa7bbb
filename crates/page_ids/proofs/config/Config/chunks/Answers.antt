use Rattle.std.proofs.Common.{◌+◌, ◌-◌, ◌/◌, ◌<◌, ◌∙◌, ap, arith}
use Rattle.page_ids.proofs.Fitting.{whole_units}
use Rattle.page_ids.proofs.config.Config.chunks.Goals as goal

pub returns : goal.returns
returns c =
    let size = c.args.self.now.size in
    let unit = c.unit-unit.result in
    let some : 0 < unit = omega (arith, c.if-unit-eq0.false) in
    ap (λ n. n / unit) c.rounded.ensures.rounded ∙ whole_units size unit some ∙ ap (λ u. (size + u - 1) / u) c.unit-unit.ensures.unit
