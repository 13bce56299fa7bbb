use Rattle.std.proofs.Common.{arith, ap, length, ◌≡◌}
use Rattle.redo_mark.specs.Pending.{joined}
use Rattle.redo_mark.proofs.Marks.{kept_of_log, settled_fresh}
use Rattle.redo_mark.proofs.log.Log.start.Goals as goal

pub returns-clause-kept : goal.returns-clause-kept
returns-clause-kept g c =
    let none : length (joined c.new.result) ≡ 0 = ap (λ l. length (joined l)) c.new.ensures in
    let laws = g.met.R.RedoDisk g.world.𝓛 g.world.𝓜 g.world.𝓡 ((λ s x. x), (λ x. x), (λ x. x), λ x. x) in
    kept_of_log _ _ _ _ (g.R.RedoDisk.seen c.args.disk).faults _ _ (omega (arith, c.end.ensures)) (omega (arith, none))
    (settled_fresh _ _ _ (omega (arith, c.end.ensures)) (laws.sized c.args.disk).kept)
