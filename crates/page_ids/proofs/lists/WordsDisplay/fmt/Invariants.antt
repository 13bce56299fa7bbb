use Rattle.std.proofs.Common.{take}
use Rattle.std.specs.Fmt.{HasWritten, IsPlainFormatter}
use Rattle.page_ids.specs.Spelling.{after_commas, frame_text}
use Rattle.page_ids.proofs.lists.WordsDisplay.fmt.Given as goal

abbrev pub invariant-loop-frame : goal.invariant-loop-frame
invariant-loop-frame g l =
    IsPlainFormatter l.initial.f → HasWritten g.W.Write.write_str_gives l.initial.f (after_commas frame_text (take l.frame-index l.others)) l.f
