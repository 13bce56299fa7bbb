use Rattle.std.proofs.Common.{◌≡◌, ℕ, Some, ap, ◌∙◌, sym, subst, arith}
use Rattle.trail.specs.Victim.{from_the_tail}
use Rattle.instance_lists.specs.Walk.{next_home, first_tried}
use Rattle.desk.proofs.Claims.{tied_looked}
use Rattle.desk.proofs.PassedWords.{at_some, at_none, looked_on}
use Rattle.desk.proofs.Seeking.{so_far_first, so_far_more, so_far_less, so_far_all, so_far_stop, taken_on}
use Rattle.desk.proofs.desk.Desk.pass.Goals as goal

pub loop-at-init : goal.loop-at-init
loop-at-init g c =
    let desk = c.args.self.now.state in
    let first = subst (λ x. c.first_tried-at.result ≡ first_tried x.state.config x.state.history c.args.soiled) c.self.view_is c.first_tried-at.ensures in
    (so_far_first desk.config desk.history (g.F.Frames.seen c.args.frames.now) c.args.soiled c.first_tried-at.result c.args.passed.now.items first, λ f. omega arith)

pub try_frame-requires-clause-tied : goal.try_frame-requires-clause-tied
try_frame-requires-clause-tied g c = λ κs within.
    let P = g.D.PageDisk in
    tied_looked P.seen (g.F.Frames.seen c.args.frames.now) (g.F.Frames.seen c.loop-at.frames) c.args.self.now.state c.loop-at.invariant.0.looked c.requires.tied

pub returns-in-Ok-Some-clause-stops : goal.returns-in-Ok-Some-clause-stops
returns-in-Ok-Some-clause-stops g c = λ pages are.
    let desk = c.args.self.now.state in
    let v = c.in-Ok-Some.victim in
    let taken = at_some c.in-Ok-Some.field-0 _ v c.in-Ok-Some.ensures.taken c.in-Ok-Some.field-0-is in
    so_far_stop desk.config desk.history (g.F.Frames.seen c.args.frames.now) (g.F.Frames.seen c.loop-at.frames) (g.F.Frames.seen c.try_frame.new.frames) c.args.soiled c.loop-at.at v.frame v.page
    c.args.passed.now.items c.loop-at.passed.items c.try_frame.new.passed.items c.requires.orderly c.loop-at.invariant.0 (c.in-Some.is ∙ ap (λ (n : ℕ). Some n) (sym taken.0)) taken.2.housed taken.1 taken.2.claimed taken.3 pages are

pub returns-in-Ok-Some-clause-taken : goal.returns-in-Ok-Some-clause-taken
returns-in-Ok-Some-clause-taken g c =
    let v = c.in-Ok-Some.victim in
    let taken = at_some c.in-Ok-Some.field-0 _ v c.in-Ok-Some.ensures.taken c.in-Ok-Some.field-0-is in
    taken_on (g.F.Frames.seen c.args.frames.now) (g.F.Frames.seen c.loop-at.frames) (g.F.Frames.seen c.try_frame.new.frames) c.args.self.now.state.history v.page v.frame v.clock c.loop-at.invariant.0.looked taken.2

pub returns-in-Err-clause-looked : goal.returns-in-Err-clause-looked
returns-in-Err-clause-looked g c =
    looked_on (g.F.Frames.seen c.args.frames.now) (g.F.Frames.seen c.loop-at.frames) (g.F.Frames.seen c.try_frame.new.frames) c.loop-at.invariant.0.looked c.in-Err.ensures.looked

pub loop-at-smaller : goal.loop-at-smaller
loop-at-smaller g c =
    let desk = c.args.self.now.state in
    let f = c.in-Some.frame in
    let next = subst (λ x. c.walk-at.result ≡ next_home x.state.history (Some f) (from_the_tail x.state.config x.state.history)) c.self.view_is c.walk-at.ensures in
    so_far_less desk.config desk.history (g.F.Frames.seen c.args.frames.now) (g.F.Frames.seen c.loop-at.frames) (g.F.Frames.seen c.try_frame.new.frames) c.args.soiled c.loop-at.at c.walk-at.result f
    c.args.passed.now.items c.loop-at.passed.items c.try_frame.new.passed.items c.requires.orderly c.loop-at.invariant.0 c.in-Some.is next

pub loop-at-preserved : goal.loop-at-preserved
loop-at-preserved g c =
    let desk = c.args.self.now.state in
    let f = c.in-Some.frame in
    let next = subst (λ x. c.walk-at.result ≡ next_home x.state.history (Some f) (from_the_tail x.state.config x.state.history)) c.self.view_is c.walk-at.ensures in
    let told = c.in-Ok-None.ensures in (
      so_far_more desk.config desk.history (g.F.Frames.seen c.args.frames.now) (g.F.Frames.seen c.loop-at.frames) (g.F.Frames.seen c.try_frame.new.frames) c.args.soiled c.loop-at.at c.walk-at.result f
          c.args.passed.now.items c.loop-at.passed.items c.try_frame.new.passed.items c.requires.orderly c.loop-at.invariant.0 c.in-Some.is next (at_none c.in-Ok-None.field-0 _ told.looked c.in-Ok-None.field-0-is) (at_none c.in-Ok-None.field-0 _ told.passed c.in-Ok-None.field-0-is),
      λ n. let before = c.loop-at.invariant.1 n in let after = told.fixes n in omega (arith, before, after),
    )

pub returns-clause-passed : goal.returns-clause-passed
returns-clause-passed g c =
    let desk = c.args.self.now.state in
    so_far_all desk.config desk.history (g.F.Frames.seen c.args.frames.now) (g.F.Frames.seen c.loop-at.frames) c.args.soiled c.loop-at.at c.args.passed.now.items c.loop-at.passed.items c.requires.orderly c.loop-at.invariant.0 c.in_default.is
