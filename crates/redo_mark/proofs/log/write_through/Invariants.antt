use Rattle.std.proofs.Common.{◌≡◌, ◌≤◌, ◌+◌, length}
use Rattle.redo_mark.specs.Device.{Tells}
use Rattle.redo_mark.specs.Pending.{joined}
use Rattle.redo_mark.proofs.Telling.{IsWriting}
use Rattle.redo_mark.proofs.log.write_through.Given as goal

abbrev pub invariant-loop-bytes : goal.invariant-loop-bytes
invariant-loop-bytes g l =
    (goal.iterator-loop-bytes g).can_next l.bytes-iterator ×
    (goal.iterator-loop-bytes g).is_finite l.bytes-iterator ×
    (l.at + length (joined l.bytes-iterator) ≡ l.fn.from + length (joined l.fn.pending)) ×
    (l.fn.from ≤ l.at) ×
    (l.at ≤ (g.R.RedoDisk.seen l.disk).reach) ×
    ((g.R.RedoDisk.seen l.fn.disk).reach ≤ (g.R.RedoDisk.seen l.disk).reach) ×
    ((g.R.RedoDisk.seen l.disk).opened ≡ (g.R.RedoDisk.seen l.fn.disk).opened) ×
    ((g.R.RedoDisk.seen l.fn.disk).faults ≤ (g.R.RedoDisk.seen l.disk).faults) ×
    Tells (g.R.RedoDisk.seen l.fn.disk).told (g.R.RedoDisk.seen l.disk).told (IsWriting l.fn.from l.at (joined l.bytes-iterator) (joined l.fn.pending))
