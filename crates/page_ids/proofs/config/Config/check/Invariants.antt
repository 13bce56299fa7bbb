use Rattle.std.proofs.Common.{◌≡◌, drop}
use Rattle.page_ids.specs.Fields.{first_unfit, judged, unfit_of}
use Rattle.page_ids.proofs.config.Config.check.Given as goal

abbrev pub invariant-loop-field : goal.invariant-loop-field
invariant-loop-field l = first_unfit l.self (drop l.field-index judged) ≡ unfit_of l.self
