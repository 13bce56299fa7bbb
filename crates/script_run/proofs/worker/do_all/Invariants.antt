use Rattle.std.proofs.Common.{◌≡◌, List, [], drop, take}
use Rattle.std.specs.List.{AllByRecursion}
use Rattle.trail.specs.declared.event.Event.{Event}
use Rattle.trail.specs.Trails.{Opening}
use Rattle.script_text.specs.Grammar.{calls_in}
use Rattle.script_text.specs.Within.{IsInRange}
use Rattle.script_run.specs.Openings.{Start}
use Rattle.script_run.specs.Work.{HasPlayed, StandsBehind, Progress}
use Rattle.script_run.specs.Several.{AlongFew}
use Rattle.script_run.specs.Workers.{working}
use Rattle.script_run.proofs.worker.do_all.Given as goal

abbrev pub invariant-loop-command : goal.invariant-loop-command
invariant-loop-command g l =
    let seen = g.D.PageDisk.seen in
    record {
      along : AlongFew seen (calls_in 1 (take l.command-index l.commands)) l.fn.desk.state l.desk.state l.fn.frames l.frames l.fn.redo.seen l.redo.seen (working l.fn.pass) (working l.pass);
      ranges : AllByRecursion (IsInRange l.fn.desk.state.config.page) (drop l.command-index l.commands);
      done : (o : Opening) (start : Start) (past : List Event) → HasPlayed seen o start l.fn.desk.state l.fn.redo.seen (working l.fn.pass) past [] → StandsBehind seen o start l.fn.desk.state l.fn.frames
          → Progress seen o start l.desk.state l.redo.seen (working l.pass) past l.commands (drop l.command-index l.commands);
      opening : l.redo.opening ≡ l.fn.redo.opening;
    }
