use Rattle.std.proofs.Common.{◌≡◌, ◌<◌, ◌∙◌, Option, Some, IfSome, length, ap, sym, subst}
use Rattle.std.proofs.lemmas.Result.{on_ok_weaker, on_err_weaker}
use Rattle.page_ids.specs.Content.{Content}
use Rattle.page_ids.specs.Layout.{IsPage}
use Rattle.page_ids.specs.Size.{page_bytes}
use Rattle.frame_words.specs.Rows.{laid_row}
use Rattle.frame_words.specs.Seen.{FramesSeen, row_at, with_row}
use Rattle.desk.specs.Behind.{IsBehind}
use Rattle.instance_lists.specs.Ledger.{IsVacant}
use Rattle.desk.specs.Tied.{AreTied}
use Rattle.desk.proofs.Behind.{made, behind_same}
use Rattle.desk.proofs.Loading.{behind_laid}
use Rattle.desk.proofs.Rows.{vacant_image}
use Rattle.desk.proofs.Tying.{below_rows, relaid, laid_again, tied_same, tied_laid}
use Rattle.desk.proofs.desk.Desk.read_in.Goals as goal

pub returns-clause-ok : goal.returns-clause-ok
returns-clause-ok g c =
    let s = g.F.Frames.seen c.args.frames.now in
    let f = c.args.frame in
    let now = c.read_page-read.new.image in
    let inside = below_rows g.D.PageDisk.seen s c.args.self.now.state f c.requires.tied c.requires.next.below in
    let seen : g.F.Frames.seen c.lay.new.self ≡ with_row s f (laid_row (row_at s f) now) =
    relaid s (g.F.Frames.seen c.lift-image.new.self) (g.F.Frames.seen c.lay.new.self) f now inside c.lift-image.ensures.seen c.lay.ensures.seen in
    on_ok_weaker c.read_page-read.result (λ read. record {
      content = now;
      read = subst (λ k. IfSome ((g.D.PageDisk.seen k.state.disk).told c.args.page) (λ bytes. IsPage c.args.page bytes now)) c.self.view_is read;
      seen = seen;
    }) c.read_page-read.ensures.read

pub returns-clause-err : goal.returns-clause-err
returns-clause-err g c =
    let old = c.args.self.now.state in
    let s = g.F.Frames.seen c.args.frames.now in
    let f = c.args.frame in
    let now = c.read_page-read.new.image in
    let inside = below_rows g.D.PageDisk.seen s old f c.requires.tied c.requires.next.below in
    let seen : g.F.Frames.seen c.lay.new.self ≡ with_row s f (laid_row (row_at s f) now) =
    relaid s (g.F.Frames.seen c.lift-image.new.self) (g.F.Frames.seen c.lay.new.self) f now inside c.lift-image.ensures.seen c.lay.ensures.seen in
    let there = vacant_image (page_bytes old.config.page) old.config.frames old.history (row_at s f) f (c.requires.tied.rows f inside) c.requires.next.vacant c.requires.next.below in
    let was : c.lift-image.result ≡ there.0 = subst (λ (i : Option (Option Content)). IfSome i (λ told. IfSome told (λ content. c.lift-image.result ≡ content))) there.1 c.lift-image.ensures.image in
    on_err_weaker c.read_page-read.result (λ kept. seen ∙ laid_again s f now (there.1 ∙ ap (λ (x : Content). Some (Some x)) (sym (kept ∙ was)))) c.read_page-read.ensures.kept

pub returns-clause-tied : goal.returns-clause-tied
returns-clause-tied g c =
    let x = c.self.inside in
    let old = c.args.self.now.state in
    let s = g.F.Frames.seen c.args.frames.now in
    let f = c.args.frame in
    let now = c.read_page-read.new.image in
    let disk = c.read_page-read.new.disk in
    let inside = below_rows g.D.PageDisk.seen s old f c.requires.tied c.requires.next.below in
    let seen : g.F.Frames.seen c.lay.new.self ≡ with_row s f (laid_row (row_at s f) now) =
    relaid s (g.F.Frames.seen c.lift-image.new.self) (g.F.Frames.seen c.lay.new.self) f now inside c.lift-image.ensures.seen c.lay.ensures.seen in
    let there = vacant_image (page_bytes old.config.page) old.config.frames old.history (row_at s f) f (c.requires.tied.rows f inside) c.requires.next.vacant c.requires.next.below in
    let was : c.lift-image.result ≡ there.0 = subst (λ (i : Option (Option Content)). IfSome i (λ told. IfSome told (λ content. c.lift-image.result ≡ content))) there.1 c.lift-image.ensures.image in
    let fits : length now.bytes ≡ page_bytes old.config.page = c.read_page-read.ensures.image ∙ ap (λ (y : Content). length y.bytes) was ∙ there.2 in
    let whole = subst (λ k. AreTied g.D.PageDisk.seen s k.state) (sym c.self.view_is) c.requires.tied in
    let size = subst (λ k. length now.bytes ≡ page_bytes k.state.config.page) (sym c.self.view_is) fits in
    let below = subst (λ k. f < k.state.config.frames) (sym c.self.view_is) c.requires.next.below in
    let vacant = subst (λ k. IsVacant k.state.history f) (sym c.self.view_is) c.requires.next.vacant in
    let desk = made x.lists.config x.instance x.lists.history disk in
    subst (λ (y : FramesSeen). AreTied g.D.PageDisk.seen y desk) (sym seen) (tied_laid g.D.PageDisk.seen desk s f now below vacant size
    (tied_same g.D.PageDisk.seen x.lists.config x.instance x.lists.history x.disk disk s c.read_page-read.ensures.disk whole))

pub returns-clause-behind : goal.returns-clause-behind
returns-clause-behind g c = λ o before.
    let x = c.self.inside in
    let old = c.args.self.now.state in
    let s = g.F.Frames.seen c.args.frames.now in
    let f = c.args.frame in
    let now = c.read_page-read.new.image in
    let disk = c.read_page-read.new.disk in
    let inside = below_rows g.D.PageDisk.seen s old f c.requires.tied c.requires.next.below in
    let seen : g.F.Frames.seen c.lay.new.self ≡ with_row s f (laid_row (row_at s f) now) =
    relaid s (g.F.Frames.seen c.lift-image.new.self) (g.F.Frames.seen c.lay.new.self) f now inside c.lift-image.ensures.seen c.lay.ensures.seen in
    let whole = subst (λ k. IsBehind g.D.PageDisk.seen o k.state s) (sym c.self.view_is) before in
    let vacant = subst (λ k. IsVacant k.state.history f) (sym c.self.view_is) c.requires.next.vacant in
    let desk = made x.lists.config x.instance x.lists.history disk in
    subst (λ (y : FramesSeen). IsBehind g.D.PageDisk.seen o desk y) (sym seen) (behind_laid g.D.PageDisk.seen o desk s f (laid_row (row_at s f) now) vacant
    (behind_same g.D.PageDisk.seen o x.lists.config x.instance x.lists.history x.disk disk s c.read_page-read.ensures.disk whole))
