use Rattle.std.proofs.Common.{◌+◌, ◌<◌, ◌^◌, subst, sym}
use Rattle.trail.specs.Trails.{mark}
use Rattle.frame_words.specs.Conditions.{MayPublish}
use Rattle.frame_words.specs.Seen.{FramesSeen}
use Rattle.desk.proofs.Making.{may_show}
use Rattle.desk.proofs.desk.Desk.show_made.Goals as goal

pub publish-requires : goal.publish-requires
publish-requires g c =
    let old = c.args.self.now.state in
    let s = g.F.Frames.seen c.args.frames.now in
    let place = c.next_place-place.ensures.place in
    let early : mark old.config.first old.history + 1 < 2 ^ 48 = subst (λ n. n < 2 ^ 48) place c.next_place-place.ensures.early in
    record {
      may = subst (λ n. MayPublish (g.F.Frames.seen c.append.new.frames) c.args.frame c.args.page n) (sym place)
          (subst (λ (x : FramesSeen). MayPublish x c.args.frame c.args.page (mark old.config.first old.history + 1)) (sym c.append.ensures.seen)
          (may_show g.D.PageDisk.seen old.config old.instance old.history old.disk s c.args.by c.args.page c.args.frame c.args.span.start c.args.span.end c.args.now
          c.requires.next.below c.requires.next.vacant early c.requires.image c.requires.tied));
    }
