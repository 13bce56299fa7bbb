use Rattle.frame_words.specs.Rows.{latched_row, lifted_row}
use Rattle.frame_words.specs.Seen.{row_at}
use Rattle.desk.proofs.Changing.{then_row}
use Rattle.desk.proofs.desk.take_image.Goals as goal

pub returns-clause-seen : goal.returns-clause-seen
returns-clause-seen g c =
    let s = g.F.Frames.seen c.args.frames.now in
    let f = c.args.frame in
    let ok = c.in-Ok.ensures.ok in
    then_row lifted_row s (g.F.Frames.seen c.latch.new.self) (g.F.Frames.seen c.lift.new.self) f (latched_row (row_at s f) ok.0) c.requires.inside ok.2 c.lift.ensures.seen
