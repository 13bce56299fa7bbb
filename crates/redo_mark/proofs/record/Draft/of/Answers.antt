use Rattle.std.proofs.Common.{rules}
use Rattle.redo_mark.proofs.record.Draft.of.Goals as goal

pub invariant_of-result : goal.invariant_of-result
invariant_of-result c = (c.reserve.new.self, c.args.change.now, search rules, search rules, search rules, search rules)
