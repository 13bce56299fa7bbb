use Rattle.std.proofs.Common.{rules}
use Rattle.redo_log.proofs.Keeps.{shares}
use Rattle.redo_log.proofs.steps.share.Goals as goal

pub split_pass-requires : goal.split_pass-requires
split_pass-requires c = (search rules, (search rules, (search rules, shares _ _ c.requires.share)))
