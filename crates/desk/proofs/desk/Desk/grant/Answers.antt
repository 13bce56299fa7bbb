use Rattle.std.proofs.Common.{◌≡◌, [], ◌∷◌, refl, ap, sym, subst}
use Rattle.trail.specs.declared.event.Kind.TheVariants as kind
use Rattle.frame_words.specs.Appends.{appended}
use Rattle.frame_words.specs.Seen.{FramesSeen}
use Rattle.desk.specs.Moments.{Follows}
use Rattle.desk.specs.Steps.{next_entry}
use Rattle.desk.proofs.Fixing.{settled_held}
use Rattle.desk.proofs.Hands.{hands_on}
use Rattle.desk.proofs.Loading.{visiting, behind_on, behind_fixed}
use Rattle.desk.proofs.Moments.{keeps_entry}
use Rattle.desk.proofs.Tying.{below_rows, granted, tied_on, tied_fixed}
use Rattle.desk.proofs.desk.Desk.grant.Goals as goal

pub returns-clause-keeps : goal.returns-clause-keeps
returns-clause-keeps g c = λ l.
    let P = g.D.PageDisk in
    let old = c.args.self.now.state in
    let new = c.append.new.self.state in
    let f = c.args.frame in
    let w = c.visit.result in
    let s = g.F.Frames.seen c.args.frames.now in
    let t = g.F.Frames.seen c.append.new.frames in
    let tied = c.requires.rest.tied in
    let clock = c.clock-clock.result in
    let k = kind.Fix c.args.page f clock c.args.now in
    let a = c.append.ensures in
    let is : t ≡ appended (visiting s f w) (next_entry old c.args.by k) = granted s (g.F.Frames.seen c.visit.new.self) t f w (next_entry old c.args.by k) tied.none_owed c.visit.ensures.seen a.seen in
    keeps_entry P.seen old new s t l c.args.by k a.appended a.disk tt (λ known. known)
    (record {
      tied = tied_on P.seen old new c.args.by k t _ a.appended a.disk is
          (tied_fixed P.seen old.config old.instance old.history old.disk s c.args.by c.args.page f clock c.args.now w (below_rows P.seen s old f tied c.requires.below) tied);
      settled = settled_held s.rows t.rows f (ap (λ (x : FramesSeen). x.rows) is) c.requires.rest.settled;
      hands = hands_on old new c.args.by k a.appended (λ b. refl) c.requires.rest.hands;
    })
    (subst (Follows (next_entry old c.args.by k ∷ []) s) (sym is) (record { turn = refl; opened = refl; history = refl; base = refl }))
    (λ o based before. behind_on P.seen o old new c.args.by k t _ a.appended a.disk is
    (behind_fixed P.seen o old.config old.instance old.history old.disk s c.args.by c.args.page f clock c.args.now w before))
