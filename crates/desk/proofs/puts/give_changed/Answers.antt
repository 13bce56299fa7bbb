use Rattle.frame_words.specs.Rows.{Row, laid_row, stamped_row, unlatched_row}
use Rattle.frame_words.specs.Seen.{row_at}
use Rattle.desk.proofs.Changing.{then_row}
use Rattle.desk.proofs.puts.give_changed.Goals as goal

pub returns : goal.returns
returns g c =
    let s = g.F.Frames.seen c.args.frames.now in
    let f = c.args.frame in
    let laid : Row = laid_row (row_at s f) c.args.image in
    let stamped = then_row (λ (r : Row). stamped_row r c.args.place) s (g.F.Frames.seen c.lay.new.self) (g.F.Frames.seen c.stamp.new.self) f laid c.requires.latch.inside
    c.lay.ensures.seen c.stamp.ensures.seen in
    record {
      seen = then_row unlatched_row s (g.F.Frames.seen c.stamp.new.self) (g.F.Frames.seen c.unlatch.new.self) f (stamped_row laid c.args.place) c.requires.latch.inside
          stamped c.unlatch.ensures.seen;
    }
