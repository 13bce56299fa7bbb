use Rattle.std.proofs.Common.{arith, ap}
use Rattle.redo_mark.specs.Logs.{IsKept}
use Rattle.redo_mark.proofs.Marks.{kept_of_log, all_kept_of_log, kept_piece}
use Rattle.redo_mark.proofs.log.Log.close.Goals as goal

pub returns-clause-kept : goal.returns-clause-kept
returns-clause-kept g c = rw (← c.self.view_is) (kept_of_log _ _ _ _ (g.R.RedoDisk.seen c.self.inside.disk).faults _ _ c.self.invariant.low c.self.invariant.ends c.self.invariant.settled)

pub returns-clause-records : goal.returns-clause-records
returns-clause-records g c = λ piece start holds below.
    let kept : IsKept c.args.self.seen (g.R.RedoDisk.seen c.self.inside.disk).told =
    rw (← c.self.view_is) (kept_of_log _ _ _ _ (g.R.RedoDisk.seen c.self.inside.disk).faults _ _ c.self.invariant.low c.self.invariant.ends c.self.invariant.settled) in
    let mark = ap (λ v. v.seen.durable) c.self.view_is in
    kept_piece c.args.self.seen _ piece start kept holds (omega (arith, below, mark))

pub returns-clause-all : goal.returns-clause-all
returns-clause-all g c = rw (← c.self.view_is) (λ opening was.
    all_kept_of_log _ _ _ _ (g.R.RedoDisk.seen c.self.inside.disk).faults opening _ _ c.self.invariant.low c.self.invariant.settled was)
