use Rattle.redo_mark.proofs.Marks.{measured_of_log}
use Rattle.redo_mark.proofs.log.Log.is_measured.Goals as goal

pub returns : goal.returns
returns g c = rw (← c.self.view_is) (measured_of_log _ _ _ _ (g.R.RedoDisk.seen c.self.inside.disk).faults _ _ c.self.invariant.low c.self.invariant.ends c.self.invariant.settled)
