use Rattle.std.proofs.Common.{◌≡◌, ℕ, Option, IfSome, length, sym, ap, subst, ◌∙◌}
use Rattle.page_ids.specs.Content.{Content}
use Rattle.page_ids.specs.Size.{page_bytes}
use Rattle.frame_words.specs.Rows.{Row, laid_row}
use Rattle.frame_words.specs.Seen.{FramesSeen, row_at, with_row}
use Rattle.desk.specs.Creating.{blank_at}
use Rattle.desk.specs.Tied.{AreTied}
use Rattle.desk.proofs.Making.{blank_fits}
use Rattle.desk.proofs.Rows.{row_here, vacant_image}
use Rattle.desk.proofs.Tying.{below_rows, relaid, tied_laid}
use Rattle.desk.proofs.desk.Desk.lay_blank.Goals as goal

pub returns-clause-seen : goal.returns-clause-seen
returns-clause-seen g c =
    let P = g.D.PageDisk in
    let desk = c.args.self.now.state in
    let s = g.F.Frames.seen c.args.frames.now in
    let f = c.args.frame in
    let was = c.lift-image.result in
    let inside = below_rows P.seen s desk f c.requires.tied c.requires.below in
    let there = vacant_image (page_bytes desk.config.page) desk.config.frames desk.history (row_at s f) f (c.requires.tied.rows f inside) c.requires.vacant c.requires.below in
    let same : was ≡ there.0 = subst (λ (i : Option (Option Content)). IfSome i (λ told. IfSome told (λ content. was ≡ content))) there.1 c.lift-image.ensures.image in
    let fits : length was.bytes ≡ page_bytes desk.config.page = ap (λ (y : Content). length y.bytes) same ∙ there.2 in
    relaid s (g.F.Frames.seen c.lift-image.new.self) (g.F.Frames.seen c.lay.new.self) f c.clear.new.self inside c.lift-image.ensures.seen c.lay.ensures.seen
    ∙ ap (λ (x : Content). with_row s f (laid_row (row_at s f) x)) (c.clear.ensures ∙ ap (λ (n : ℕ). blank_at n c.args.lsn) fits)

pub returns-clause-image : goal.returns-clause-image
returns-clause-image g c =
    let P = g.D.PageDisk in
    let desk = c.args.self.now.state in
    let s = g.F.Frames.seen c.args.frames.now in
    let f = c.args.frame in
    ap (λ (x : FramesSeen). (row_at x f).image) (returns-clause-seen g c)
    ∙ ap (λ (r : Row). r.image) (row_here s.rows f (laid_row (row_at s f) (blank_at (page_bytes desk.config.page) c.args.lsn)) (below_rows P.seen s desk f c.requires.tied c.requires.below))

pub returns-clause-tied : goal.returns-clause-tied
returns-clause-tied g c =
    let P = g.D.PageDisk in
    let desk = c.args.self.now.state in
    let size = page_bytes desk.config.page in
    subst (λ (x : FramesSeen). AreTied P.seen x desk) (sym (returns-clause-seen g c))
    (tied_laid P.seen desk (g.F.Frames.seen c.args.frames.now) c.args.frame (blank_at size c.args.lsn) c.requires.below c.requires.vacant (blank_fits size c.args.lsn) c.requires.tied)
