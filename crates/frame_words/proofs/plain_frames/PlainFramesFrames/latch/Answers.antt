use Rattle.std.proofs.Common.{rules}
use Rattle.frame_words.specs.Seen.{row_at}
use Rattle.frame_words.specs.Plain.{seen_of}
use Rattle.frame_words.proofs.Told.{told_stays}
use Rattle.frame_words.proofs.plain_frames.PlainFramesFrames.latch.Goals as goal

pub returns-clause-ok : goal.returns-clause-ok
returns-clause-ok c = let image = (row_at (seen_of c.args.self.now) c.args.frame).image in (
  image,
  record { told = told_stays image c.latch_frame.ensures.told; its = λ resident. search rules },
  c.latch_frame.ensures.seen,
)
