use Rattle.std.proofs.Common.{◌≡◌, ◌++◌, take}
use Rattle.dump_load.specs.Text.{dump_text}
use Rattle.dump_load.proofs.text.push_ids.Given as goal

abbrev pub invariant-loop-id : goal.invariant-loop-id
invariant-loop-id l = l.out.items ≡ l.fn.out.items ++ dump_text (take l.id-index l.ids)
