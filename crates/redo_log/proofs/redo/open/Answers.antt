use Rattle.std.proofs.Common.{rules}
use Rattle.redo_log.proofs.Keeps.{begins}
use Rattle.redo_log.proofs.redo.open.Goals as goal

pub ruled-requires : goal.ruled-requires
ruled-requires g c = (search rules, (search rules, begins))
