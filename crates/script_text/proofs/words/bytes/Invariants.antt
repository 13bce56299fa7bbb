use Rattle.std.proofs.Common.{◌≡◌, length}
use Rattle.script_text.specs.Reading.{hex_of}
use Rattle.script_text.proofs.Hex.{After}
use Rattle.script_text.proofs.words.bytes.Given as goal

abbrev pub invariant-loop-rest : goal.invariant-loop-rest
invariant-loop-rest l = After l.bytes.items l.rest ≡ hex_of l.word

abbrev pub decreases-loop-rest : goal.decreases-loop-rest
decreases-loop-rest l = length l.rest
