use Rattle.std.proofs.Common.{◌≡◌, ◌+◌, ◌<◌, ◌^◌, length, arith, subst, sym, ap, ◌∙◌}
use Rattle.trail.specs.Trails.{mark}
use Rattle.trail.specs.declared.event.Kind.TheVariants as kind
use Rattle.frame_words.specs.Conditions.{MayPublish}
use Rattle.frame_words.specs.Seen.{FramesSeen}
use Rattle.desk.proofs.Loading.{behind_on, behind_loaded}
use Rattle.desk.proofs.Tying.{below_rows, may_publish, published, tied_on, tied_loaded}
use Rattle.desk.proofs.desk.Desk.take_in.Goals as goal

pub publish-requires : goal.publish-requires
publish-requires g c =
    let old = c.args.self.now.state in
    let s = g.F.Frames.seen c.args.frames.now in
    let place : c.mark-place.result + 1 ≡ mark old.config.first old.history + 1 =
    ap (λ m. m + 1) c.mark-place.ensures.mark ∙ ap (λ k. mark k.state.config.first k.state.history + 1) c.self.view_is in
    let count : c.mark-place.result ≡ old.config.first + length old.history = c.mark-place.ensures.count ∙ ap (λ k. k.state.config.first + length k.state.history) c.self.view_is in
    let early : mark old.config.first old.history + 1 < 2 ^ 48 = subst (λ n. n < 2 ^ 48) place (omega (arith, count, c.requires.entries.places)) in
    let image = c.requires.image in
    record {
      may = subst (λ n. MayPublish (g.F.Frames.seen c.append.new.frames) c.args.frame c.args.page n) (sym place)
          (subst (λ (x : FramesSeen). MayPublish x c.args.frame c.args.page (mark old.config.first old.history + 1)) (sym c.append.ensures.seen)
          (may_publish g.D.PageDisk.seen old.config old.instance old.history old.disk s c.args.by c.args.page c.args.frame image.0
          c.requires.next.below c.requires.next.vacant c.requires.asked.clean c.requires.asked.inside early image.1.image image.1.read c.requires.tied));
    }

pub returns-clause-seen : goal.returns-clause-seen
returns-clause-seen g c =
    let old = c.args.self.now.state in
    let place : c.mark-place.result + 1 ≡ mark old.config.first old.history + 1 =
    ap (λ m. m + 1) c.mark-place.ensures.mark ∙ ap (λ k. mark k.state.config.first k.state.history + 1) c.self.view_is in
    published (g.F.Frames.seen c.args.frames.now) (g.F.Frames.seen c.append.new.frames) (g.F.Frames.seen c.publish.new.self) old.config.first old.history c.args.by c.args.page c.args.frame (c.mark-place.result + 1)
    c.append.ensures.seen c.publish.ensures.seen place

pub returns-clause-tied : goal.returns-clause-tied
returns-clause-tied g c =
    let old = c.args.self.now.state in
    let f = c.args.frame in
    let s = g.F.Frames.seen c.args.frames.now in
    let seen = returns-clause-seen g c in
    let image = c.requires.image in
    tied_on g.D.PageDisk.seen old c.append.new.self.state c.args.by (kind.Load c.args.page f) (g.F.Frames.seen c.publish.new.self) _
    c.append.ensures.appended c.append.ensures.disk seen
    (tied_loaded g.D.PageDisk.seen old.config old.instance old.history old.disk s c.args.by c.args.page f image.0
    c.requires.next.below c.requires.next.vacant c.requires.asked.absent c.requires.asked.clean c.requires.asked.inside c.requires.asked.caller.own image.1.image image.1.read c.requires.tied)

pub returns-clause-behind : goal.returns-clause-behind
returns-clause-behind g c = λ o based before.
    let old = c.args.self.now.state in
    let f = c.args.frame in
    let s = g.F.Frames.seen c.args.frames.now in
    let seen = returns-clause-seen g c in
    let image = c.requires.image in
    let inside = below_rows g.D.PageDisk.seen s old f c.requires.tied c.requires.next.below in
    behind_on g.D.PageDisk.seen o old c.append.new.self.state c.args.by (kind.Load c.args.page f) (g.F.Frames.seen c.publish.new.self) _
    c.append.ensures.appended c.append.ensures.disk seen
    (behind_loaded g.D.PageDisk.seen o old.config old.instance old.history old.disk s c.args.by c.args.page f image.0
    inside c.requires.next.vacant c.requires.asked.clean c.requires.asked.inside image.1.image image.1.read (λ none. (c.requires.tied.shared f inside none).1) based before)
