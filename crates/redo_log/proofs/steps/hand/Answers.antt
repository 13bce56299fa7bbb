use Rattle.std.proofs.Common.{rules}
use Rattle.redo_log.proofs.Keeps.{hands}
use Rattle.redo_log.proofs.steps.hand.Goals as goal

pub split_pass-requires : goal.split_pass-requires
split_pass-requires c = (search rules, (search rules, (search rules, hands _ _ c.requires.keeps)))
