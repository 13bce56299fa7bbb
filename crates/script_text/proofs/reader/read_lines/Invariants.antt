use Rattle.std.proofs.Common.{◌≤◌, ◌+◌, length}
use Rattle.script_text.specs.Grammar.{lines_of}
use Rattle.script_text.specs.Left.{lines_left, left}
use Rattle.script_text.proofs.Taking.{Seen}
use Rattle.script_text.proofs.reader.read_lines.Given as goal

abbrev pub invariant-loop-rest : goal.invariant-loop-rest
invariant-loop-rest l = record {
  seen : Seen (lines_of l.bytes) l.number (lines_left l.rest) l.draft;
  counted : l.number + left l.rest ≤ length l.bytes + 1;
}

abbrev pub decreases-loop-rest : goal.decreases-loop-rest
decreases-loop-rest l = left l.rest
