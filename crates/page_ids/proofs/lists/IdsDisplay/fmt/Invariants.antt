use Rattle.std.proofs.Common.{take}
use Rattle.std.specs.Fmt.{HasWritten, IsPlainFormatter}
use Rattle.page_ids.specs.Spelling.{after_commas, page_text}
use Rattle.page_ids.proofs.lists.IdsDisplay.fmt.Given as goal

abbrev pub invariant-loop-id : goal.invariant-loop-id
invariant-loop-id g l =
    IsPlainFormatter l.initial.f → HasWritten g.W.Write.write_str_gives l.initial.f (after_commas page_text (take l.id-index l.others)) l.f
