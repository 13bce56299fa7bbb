use Rattle.std.proofs.Common.{rules}
use Rattle.redo_log.proofs.Keeps.{looks}
use Rattle.redo_log.proofs.steps.look.Goals as goal

pub load_as-requires : goal.load_as-requires
load_as-requires g c = (search rules, (search rules, (search rules, looks _ _)))
