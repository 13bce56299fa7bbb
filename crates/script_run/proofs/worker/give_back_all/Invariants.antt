use Rattle.std.proofs.Common.{◌≡◌, ◌<◌, ◌+◌, ◌^◌, List, length, reverse}
use Rattle.trail.specs.declared.event.Event.{Event}
use Rattle.trail.specs.Trails.{Opening}
use Rattle.script_text.specs.declared.script.Command.{Command}
use Rattle.redo_mark.specs.Logs.{Seen}
use Rattle.script_run.specs.Openings.{Start}
use Rattle.desk.specs.Base.{Opened}
use Rattle.script_run.specs.Work.{Ending, IsWorkerReady, IsBehindIt}
use Rattle.script_run.specs.Workers.{working}
use Rattle.script_run.proofs.worker.give_back_all.Given as goal

abbrev pub invariant-loop-pass : goal.invariant-loop-pass
invariant-loop-pass g l =
    let seen = g.D.PageDisk.seen in
    (l.pass.next + length l.pass.fixed.items < 2 ^ 32) × (l.pass.pass ≡ l.fn.pass.pass)
    × IsWorkerReady seen l.desk.state l.frames (reverse l.pass.fixed.items)
    × ((o : Opened) → IsBehindIt seen o l.desk.state l.fn.frames → IsBehindIt seen o l.desk.state l.frames)
    × ((o : Opening) (start : Start) (log : Seen) (past : List Event) (commands : List Command) → Ending seen o start l.desk.state log (working l.fn.pass) past commands
    → Ending seen o start l.desk.state log (working l.pass) past commands)

abbrev pub decreases-loop-pass : goal.decreases-loop-pass
decreases-loop-pass g l = length l.pass.fixed.items
