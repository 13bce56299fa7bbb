use Rattle.std.proofs.Common.{◌≡◌, ◌*◌, List, []}
use Rattle.trail.specs.declared.event.Event.{Event}
use Rattle.trail.specs.Trails.{Opening}
use Rattle.script_run.specs.Openings.{Start}
use Rattle.script_run.specs.Work.{HasPlayed, StandsBehind}
use Rattle.script_run.specs.Several.{AlongFew, Scanned}
use Rattle.script_run.specs.Workers.{working}
use Rattle.script_run.proofs.pass.Pass.scan.Given as goal

abbrev pub invariant-loop-i : goal.invariant-loop-i
invariant-loop-i g l =
    let seen = g.D.PageDisk.seen in
    record {
      along : AlongFew seen (3 * l.i) l.fn.desk.state l.desk.state l.fn.frames l.frames l.fn.redo.seen l.redo.seen (working l.fn.self) (working l.self);
      done : (o : Opening) (start : Start) (past : List Event) → HasPlayed seen o start l.fn.desk.state l.fn.redo.seen (working l.fn.self) past [] → StandsBehind seen o start l.fn.desk.state l.fn.frames
          → Scanned seen o start l.desk.state l.redo.seen (working l.self) past l.from l.now l.i;
      opening : l.redo.opening ≡ l.fn.redo.opening;
    }
