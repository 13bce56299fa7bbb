use Rattle.std.proofs.Common.{[], ◌∷◌, refl}
use Rattle.trail.specs.declared.event.Kind.TheVariants as kind
use Rattle.desk.specs.Steps.{next_entry}
use Rattle.desk.proofs.Changing.{put_lay, put_kept}
use Rattle.desk.proofs.Coming.{follows_on, follows_row, follows_one}
use Rattle.desk.proofs.Fixing.{settled_put}
use Rattle.desk.proofs.Hands.{hands_on}
use Rattle.desk.proofs.Moments.{keeps_entry}
use Rattle.desk.proofs.desk.Desk.change.Goals as goal

pub give_changed-requires-clause-may : goal.give_changed-requires-clause-may
give_changed-requires-clause-may g c =
    put_lay g.D.PageDisk.seen (g.F.Frames.seen c.args.frames.now) (g.F.Frames.seen c.take_image-image.new.frames) c.args.self.now.state c.args.by c.args.page c.frame_of-frame.result c.take_image-image.result
    c.requires.rest.tied c.requires.alone c.frame_of-frame.ensures.home c.frame_of-frame.ensures.below c.frame_of-frame.ensures.only c.take_image-image.ensures.image c.take_image-image.ensures.seen
    c.args.at c.args.bytes c.as_slice.result.now c.args.span.start c.args.span.end c.patch.new.self (g.F.Frames.seen c.append.new.frames)
    c.requires.asked.range c.patch.ensures c.as_slice.ensures c.append.ensures.seen

pub returns : goal.returns
returns g c =
    let S = g.D.PageDisk.seen in
    let s = g.F.Frames.seen c.args.frames.now in
    let t = g.F.Frames.seen c.give_changed.new.frames in
    let old = c.args.self.now.state in
    let new = c.append.new.self.state in
    let f = c.frame_of-frame.result in
    let tied = c.requires.rest.tied in
    let a = c.append.ensures in
    let end = c.args.span.end in
    let u = g.F.Frames.seen c.take_image-image.new.frames in
    let v = g.F.Frames.seen c.append.new.frames in
    let e = next_entry old c.args.by (kind.Put c.args.page c.args.at c.args.bytes c.args.span.start end) in
    let kept = put_kept S s (g.F.Frames.seen c.take_image-image.new.frames) old c.args.by c.args.page f c.take_image-image.result
    tied c.requires.alone c.frame_of-frame.ensures.home c.frame_of-frame.ensures.below c.frame_of-frame.ensures.only c.take_image-image.ensures.image c.take_image-image.ensures.seen
    c.args.at c.args.bytes c.as_slice.result.now c.args.span.start end c.next_place-place.result c.patch.new.self (g.F.Frames.seen c.append.new.frames) t
    new c.requires.asked.range c.requires.span.1 c.patch.ensures c.as_slice.ensures c.next_place-place.ensures.place a.seen c.give_changed.ensures.seen a.appended a.disk in
    record {
      done = kept.done;
      lsn = refl;
      behind = kept.behind;
      keeps = λ l holds within. keeps_entry S old new s t l c.args.by (kind.Put c.args.page c.args.at c.args.bytes c.args.span.start end) a.appended a.disk holds (λ known. within)
          (record { tied = kept.tied; settled = settled_put s.rows t.rows kept.done.frame _ _ c.requires.alone kept.done.rows_are c.requires.rest.settled; hands = hands_on old new c.args.by _ a.appended (λ b. refl) c.requires.rest.hands })
          (follows_on (e ∷ []) [] s v t (follows_on [] (e ∷ []) s u v (follows_row s u f _ c.take_image-image.ensures.seen) (follows_one u v e a.seen)) (follows_row v t f _ c.give_changed.ensures.seen))
          (λ o based before. kept.behind o before);
    }
