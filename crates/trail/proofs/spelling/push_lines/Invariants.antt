use Rattle.std.proofs.Common.{◌≡◌, ◌++◌, drop}
use Rattle.trail.specs.Spelling.{lines_text, Begins}
use Rattle.trail.proofs.spelling.push_lines.Given as goal

abbrev pub invariant-loop-event : goal.invariant-loop-event
invariant-loop-event l = record {
  rest : l.out.items ++ lines_text (drop l.event-index l.events) ≡ l.fn.out.items ++ lines_text l.events;
  begins : Begins l.fn.out.items l.out.items;
}
