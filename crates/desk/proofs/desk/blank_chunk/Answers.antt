use Rattle.std.proofs.Common.{◌<◌, ◌*◌, ap, ◌∙◌, arith}
use Rattle.page_ids.specs.Content.{Content}
use Rattle.page_ids.specs.Size.{page_bytes}
use Rattle.frame_words.specs.Plain.{seen_of}
use Rattle.frame_words.specs.Rows.{laid_row}
use Rattle.frame_words.specs.Seen.{row_at, with_row}
use Rattle.desk.proofs.Blank.{blank_more, times_some}
use Rattle.desk.proofs.desk.blank_chunk.Goals as goal

pub loop-frame-preserved : goal.loop-frame-preserved
loop-frame-preserved c =
    let n = c.args.config.now in
    let k = c.loop-frame.frame in
    let s = seen_of c.loop-frame.frames in
    let all = times_some n.frames n.max c.requires.start.max.0 in
    let below : k < n.frames * n.max = omega (arith, all, c.loop-frame-test.true) in
    blank_more (page_bytes n.page) k (n.frames * n.max) c.loop-frame.frames c.lay.new.self below c.loop-frame.invariant
    (c.lay.ensures.seen ∙ ap (λ (i : Content). with_row s k (laid_row (row_at s k) i)) c.in_ok-image.ensures)
