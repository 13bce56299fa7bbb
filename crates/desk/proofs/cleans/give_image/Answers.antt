use Rattle.frame_words.specs.Rows.{laid_row, unlatched_row}
use Rattle.frame_words.specs.Seen.{row_at}
use Rattle.desk.proofs.Changing.{then_row}
use Rattle.desk.proofs.cleans.give_image.Goals as goal

pub returns : goal.returns
returns g c =
    let s = g.F.Frames.seen c.args.frames.now in
    let f = c.args.frame in
    record {
      seen = then_row unlatched_row s (g.F.Frames.seen c.lay.new.self) (g.F.Frames.seen c.unlatch.new.self) f (laid_row (row_at s f) c.args.image) c.requires.latch.inside
          c.lay.ensures.seen c.unlatch.ensures.seen;
    }
