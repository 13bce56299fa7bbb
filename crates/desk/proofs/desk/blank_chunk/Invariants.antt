use Rattle.page_ids.specs.Size.{page_bytes}
use Rattle.std.proofs.Common.{◌*◌}
use Rattle.desk.specs.Loads.{AreBlank}
use Rattle.desk.proofs.desk.blank_chunk.Given as goal

abbrev pub invariant-loop-frame : goal.invariant-loop-frame
invariant-loop-frame l = AreBlank (page_bytes l.config.page) l.frame (l.config.frames * l.config.max) l.frames
