use Rattle.std.proofs.Common.{◌≡◌, ◌≤◌, ◌++◌, length}
use Rattle.dump_load.specs.declared.text.TheConstants.{MOST_IDS}
use Rattle.page_ids.specs.Typed.{ArePages}
use Rattle.dump_load.specs.Text.{dump_text, ended}
use Rattle.dump_load.proofs.text.read_lines.Given as goal

-- the ids of the lines so far
abbrev pub invariant-loop-rest : goal.invariant-loop-rest
invariant-loop-rest l = record {
  typed : ArePages l.ids.items;
  text : ended l.bytes ≡ dump_text l.ids.items ++ ended l.rest;
  few : length l.ids.items ≤ MOST_IDS;
}

abbrev pub decreases-loop-rest : goal.decreases-loop-rest
decreases-loop-rest l = length l.rest
