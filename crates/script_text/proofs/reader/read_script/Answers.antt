use Rattle.std.proofs.lemmas.Result.{IfOk-weaker}
use Rattle.script_text.proofs.Kept.{within_of}
use Rattle.script_text.proofs.Unique.{only_script, only_bad}
use Rattle.script_text.proofs.reader.read_script.Goals as goal

pub returns-clause-within : goal.returns-clause-within
returns-clause-within c = IfOk-weaker c.read_whole.result _ _ (λ plan h. within_of c.args.bytes.now plan h) c.read_whole.ensures.read

pub returns-clause-only : goal.returns-clause-only
returns-clause-only c = only_script c.args.bytes.now c.read_whole.result c.read_whole.ensures.read c.read_whole.ensures.bad

pub returns-clause-bad_only : goal.returns-clause-bad_only
returns-clause-bad_only c = only_bad c.args.bytes.now c.read_whole.result c.read_whole.ensures.read c.read_whole.ensures.bad
