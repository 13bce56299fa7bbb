use Rattle.std.proofs.Common.{arith, rules}
use Rattle.page_ids.specs.Fields.{judged, IsFit}
use Rattle.page_ids.proofs.Fitting.{fit_more, all_fit}
use Rattle.page_ids.proofs.config.Config.check.Goals as goal

pub loop-field-preserved : goal.loop-field-preserved
loop-field-preserved c = fit_more c.args.self.now judged c.loop-field.field-index (search rules) (search rules) c.loop-field.invariant

pub chunks-requires : goal.chunks-requires
chunks-requires c = let fit : IsFit c.args.self.now = all_fit c.args.self.now judged c.loop-field.field-index (search rules) c.loop-field.invariant in record { size = fit.size.1 }

pub overflow_cast-result : goal.overflow_cast-result
overflow_cast-result c = let fit : IsFit c.args.self.now = all_fit c.args.self.now judged c.loop-field.field-index (search rules) c.loop-field.invariant in omega (arith, fit.chunks.1, fit.max.1, c.chunks.ensures)

pub returns-clause-chunks : goal.returns-clause-chunks
returns-clause-chunks c = (c.chunks.ensures, all_fit c.args.self.now judged c.loop-field.field-index (search rules) c.loop-field.invariant)
