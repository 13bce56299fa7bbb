use Rattle.std.proofs.Common.{◌≡◌, ◌≤◌, ◌⊎◌}
use Rattle.desk.specs.Cleans.{LeavesRoom}
use Rattle.desk.specs.Moments.{moment_of}
use Rattle.desk.proofs.Flushing.{AreWritten}
use Rattle.desk.proofs.desk.Desk.write_back_all.Given as goal

abbrev pub invariant-loop-written : goal.invariant-loop-written
invariant-loop-written g l = record {
  written : AreWritten g.D.PageDisk.seen (moment_of g.F.Frames.seen g.R.RedoDisk.seen l.fn.self l.fn.frames l.fn.redo) (moment_of g.F.Frames.seen g.R.RedoDisk.seen l.self l.frames l.redo) l.by l.written;
  room : LeavesRoom l.fn.self l.self;
  idle : (l.written ≡ 0) ⊎ (l.fn.redo.seen.end ≤ l.fn.redo.seen.durable) → l.redo ≡ l.fn.redo;
}
