use Rattle.std.proofs.Common.{◌<◌, length, refl, sym, ◌∙◌, arith, inl}
use Rattle.trail.specs.declared.event.Call.TheVariants as call
use Rattle.trail.specs.declared.event.Cause.TheVariants as cause
use Rattle.frame_words.specs.Appends.{FitsRefusal}
use Rattle.desk.specs.Moments.{log_seen}
use Rattle.desk.proofs.Fixing.{few_held}
use Rattle.desk.proofs.Moments.{under_way, keeps_most, uncreated_still, may_take, outside_refusable, full_refusable}
use Rattle.desk.proofs.PassedWords.{each_some, at_some}
use Rattle.desk.proofs.desk.Desk.create_reserved.Goals as goal

pub refuse-requires-clause-rest : goal.refuse-requires-clause-rest
refuse-requires-clause-rest g c = λ κs within. under_way g.D.PageDisk.seen c.args.self.now.state (g.F.Frames.seen c.args.frames.now) c.args.by c.requires.ready.rest

pub refuse-requires-clause-hands : goal.refuse-requires-clause-hands
refuse-requires-clause-hands g c = λ κs within. inl c.requires.ready.rest.hands

pub refuse-requires-then-held-ge-MOST_FIXES-clause-rest : goal.refuse-requires-then-held-ge-MOST_FIXES-clause-rest
refuse-requires-then-held-ge-MOST_FIXES-clause-rest g c = λ κs within. under_way g.D.PageDisk.seen c.args.self.now.state (g.F.Frames.seen c.args.frames.now) c.args.by c.requires.ready.rest

pub refuse-requires-then-held-ge-MOST_FIXES-clause-hands : goal.refuse-requires-then-held-ge-MOST_FIXES-clause-hands
refuse-requires-then-held-ge-MOST_FIXES-clause-hands g c = λ κs within. inl c.requires.ready.rest.hands

pub refuse-requires-in-Some-clause-rest : goal.refuse-requires-in-Some-clause-rest
refuse-requires-in-Some-clause-rest g c = λ κs within. under_way g.D.PageDisk.seen c.args.self.now.state (g.F.Frames.seen c.args.frames.now) c.args.by c.requires.ready.rest

pub refuse-requires-in-Some-clause-hands : goal.refuse-requires-in-Some-clause-hands
refuse-requires-in-Some-clause-hands g c = λ κs within. inl c.requires.ready.rest.hands

pub refuse-requires-clause-asked : goal.refuse-requires-clause-asked
refuse-requires-clause-asked g c = λ κs within. outside_refusable g.D.PageDisk.seen _ c.args.by c.args.held c.args.page _ _ c.requires.ready c.requires.asked refl refl

pub refuse-requires-then-held-ge-MOST_FIXES-clause-asked : goal.refuse-requires-then-held-ge-MOST_FIXES-clause-asked
refuse-requires-then-held-ge-MOST_FIXES-clause-asked g c = λ κs within. full_refusable g.D.PageDisk.seen _ c.args.by c.args.held c.args.page _ _ c.requires.ready c.requires.asked refl refl (omega (arith, c.if-held-ge-MOST_FIXES.true))

pub refuse-requires-in-Some-clause-asked : goal.refuse-requires-in-Some-clause-asked
refuse-requires-in-Some-clause-asked g c = λ κs within.
    let s = g.F.Frames.seen c.args.frames.now in
    let few = few_held s.opened c.args.held (omega (arith, c.if-held-ge-MOST_FIXES.false)) c.requires.asked.held_is in
    record {
      turn = c.requires.ready.turn;
      own = c.requires.asked.own;
      for_page = refl;
      may = record {
        words = refl;
        fits = each_some s.opened (λ o. FitsRefusal o (call.Create c.args.page c.args.now) (cause.Resident c.in-Some.frame)) (λ o is. λ takes. at_some s.opened (λ x. length x < 64) o few is);
      };
    }

pub create_absent-requires-clause-asked : goal.create_absent-requires-clause-asked
create_absent-requires-clause-asked g c = λ κs within. may_take g.D.PageDisk.seen _ c.args.by c.args.held c.args.page c.requires.ready c.requires.asked (omega (arith, c.if-held-ge-MOST_FIXES.false)) (omega (arith, c.if-page-pages.false, c.pages-pages.ensures))
    (sym c.home_of.ensures.home ∙ c.in-None.is) (c.home_of.ensures.clean c.in-None.is)

pub returns-then-page-pages-clause-keeps : goal.returns-then-page-pages-clause-keeps
returns-then-page-pages-clause-keeps g c = keeps_most g.D.PageDisk.seen 1 3 _ _ (omega arith) (c.refuse.ensures.keeps (log_seen g.R.RedoDisk.seen c.args.redo.now) tt)

pub returns-then-page-pages-clause-answers : goal.returns-then-page-pages-clause-answers
returns-then-page-pages-clause-answers g c =
    let r = c.refuse.ensures.refused in
    uncreated_still g.D.PageDisk.seen _ _ _ _ (log_seen g.R.RedoDisk.seen c.args.redo.now) c.args.by c.args.held c.args.page c.args.now _ _
    (record { count = c.pages-pages.ensures; past_end = omega (arith, c.if-page-pages.true); entry = r.entry; disk = r.disk }, r.unmoved) r.entry refl

pub returns-then-held-ge-MOST_FIXES-clause-keeps : goal.returns-then-held-ge-MOST_FIXES-clause-keeps
returns-then-held-ge-MOST_FIXES-clause-keeps g c = keeps_most g.D.PageDisk.seen 1 3 _ _ (omega arith) (c.refuse-then-held-ge-MOST_FIXES.ensures.keeps (log_seen g.R.RedoDisk.seen c.args.redo.now) tt)

pub returns-then-held-ge-MOST_FIXES-clause-answers : goal.returns-then-held-ge-MOST_FIXES-clause-answers
returns-then-held-ge-MOST_FIXES-clause-answers g c =
    let r = c.refuse-then-held-ge-MOST_FIXES.ensures.refused in
    uncreated_still g.D.PageDisk.seen _ _ _ _ (log_seen g.R.RedoDisk.seen c.args.redo.now) c.args.by c.args.held c.args.page c.args.now _ _
    (omega (arith, c.if-page-pages.false, c.pages-pages.ensures), record { full_is = refl; most = omega (arith, c.if-held-ge-MOST_FIXES.true); entry = r.entry; disk = r.disk }, r.unmoved) r.entry refl

pub returns-in-Some-clause-keeps : goal.returns-in-Some-clause-keeps
returns-in-Some-clause-keeps g c = keeps_most g.D.PageDisk.seen 1 3 _ _ (omega arith) (c.refuse-in-Some.ensures.keeps (log_seen g.R.RedoDisk.seen c.args.redo.now) tt)

pub returns-in-Some-clause-answers : goal.returns-in-Some-clause-answers
returns-in-Some-clause-answers g c =
    let r = c.refuse-in-Some.ensures.refused in
    uncreated_still g.D.PageDisk.seen _ _ _ _ (log_seen g.R.RedoDisk.seen c.args.redo.now) c.args.by c.args.held c.args.page c.args.now _ _ (
      omega (arith, c.if-page-pages.false, c.pages-pages.ensures),
      omega (arith, c.if-held-ge-MOST_FIXES.false),
      record { resident = sym c.in-Some.ensures.home; entry = r.entry; disk = r.disk },
      r.unmoved,
    )
    r.entry refl

pub returns-in-None-clause-answers : goal.returns-in-None-clause-answers
returns-in-None-clause-answers g c = c.create_absent.ensures.answers c.args.held (omega (arith, c.if-held-ge-MOST_FIXES.false))
