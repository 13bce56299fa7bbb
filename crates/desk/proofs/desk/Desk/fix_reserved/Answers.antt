use Rattle.std.proofs.Common.{refl, sym, ◌∙◌, arith, inl}
use Rattle.trail.specs.History.{value}
use Rattle.frame_words.specs.Seen.{row_at}
use Rattle.desk.specs.Moments.{moment_of, log_seen}
use Rattle.desk.proofs.Moments.{under_way, keeps_most, uses_none, uses_more, unfixed_still, may_fix, may_take, outside_refusable, full_refusable}
use Rattle.desk.proofs.Loading.{value_some}
use Rattle.desk.proofs.desk.Desk.fix_reserved.Goals as goal

pub refuse-requires-clause-rest : goal.refuse-requires-clause-rest
refuse-requires-clause-rest g c = λ κs within. under_way g.D.PageDisk.seen c.args.self.now.state (g.F.Frames.seen c.args.frames.now) c.args.by c.requires.ready.rest

pub refuse-requires-clause-hands : goal.refuse-requires-clause-hands
refuse-requires-clause-hands g c = λ κs within. inl c.requires.ready.rest.hands

pub refuse-requires-then-held-ge-MOST_FIXES-clause-rest : goal.refuse-requires-then-held-ge-MOST_FIXES-clause-rest
refuse-requires-then-held-ge-MOST_FIXES-clause-rest g c = λ κs within. under_way g.D.PageDisk.seen c.args.self.now.state (g.F.Frames.seen c.args.frames.now) c.args.by c.requires.ready.rest

pub refuse-requires-then-held-ge-MOST_FIXES-clause-hands : goal.refuse-requires-then-held-ge-MOST_FIXES-clause-hands
refuse-requires-then-held-ge-MOST_FIXES-clause-hands g c = λ κs within. inl c.requires.ready.rest.hands

pub refuse-requires-clause-asked : goal.refuse-requires-clause-asked
refuse-requires-clause-asked g c = λ κs within. outside_refusable g.D.PageDisk.seen _ c.args.by c.args.held c.args.page _ _ c.requires.ready c.requires.asked refl refl

pub refuse-requires-then-held-ge-MOST_FIXES-clause-asked : goal.refuse-requires-then-held-ge-MOST_FIXES-clause-asked
refuse-requires-then-held-ge-MOST_FIXES-clause-asked g c = λ κs within. full_refusable g.D.PageDisk.seen _ c.args.by c.args.held c.args.page _ _ c.requires.ready c.requires.asked refl refl (omega (arith, c.if-held-ge-MOST_FIXES.true))

pub fix_absent-requires-clause-asked : goal.fix_absent-requires-clause-asked
fix_absent-requires-clause-asked g c = λ κs within. may_take g.D.PageDisk.seen _ c.args.by c.args.held c.args.page c.requires.ready c.requires.asked (omega (arith, c.if-held-ge-MOST_FIXES.false)) (omega (arith, c.if-page-pages.false, c.pages-pages.ensures))
    (sym c.home_of.ensures.home ∙ c.in-None.is) (c.home_of.ensures.clean c.in-None.is)

pub returns-then-page-pages-clause-keeps : goal.returns-then-page-pages-clause-keeps
returns-then-page-pages-clause-keeps g c = keeps_most g.D.PageDisk.seen 1 4 _ _ (omega arith) (c.refuse.ensures.keeps (log_seen g.R.RedoDisk.seen c.args.redo.now) tt)

pub returns-then-page-pages-clause-answers : goal.returns-then-page-pages-clause-answers
returns-then-page-pages-clause-answers g c =
    let r = c.refuse.ensures.refused in
    unfixed_still g.D.PageDisk.seen _ _ _ _ (log_seen g.R.RedoDisk.seen c.args.redo.now) c.args.by c.args.held c.args.page c.args.now _ _
    (record { count = c.pages-pages.ensures; past_end = omega (arith, c.if-page-pages.true); entry = r.entry; disk = r.disk }, r.unmoved) r.entry refl (λ bad is. absurd (cc))

pub returns-then-held-ge-MOST_FIXES-clause-keeps : goal.returns-then-held-ge-MOST_FIXES-clause-keeps
returns-then-held-ge-MOST_FIXES-clause-keeps g c = keeps_most g.D.PageDisk.seen 1 4 _ _ (omega arith) (c.refuse-then-held-ge-MOST_FIXES.ensures.keeps (log_seen g.R.RedoDisk.seen c.args.redo.now) tt)

pub returns-then-held-ge-MOST_FIXES-clause-answers : goal.returns-then-held-ge-MOST_FIXES-clause-answers
returns-then-held-ge-MOST_FIXES-clause-answers g c =
    let r = c.refuse-then-held-ge-MOST_FIXES.ensures.refused in
    unfixed_still g.D.PageDisk.seen _ _ _ _ (log_seen g.R.RedoDisk.seen c.args.redo.now) c.args.by c.args.held c.args.page c.args.now _ _
    (omega (arith, c.if-page-pages.false, c.pages-pages.ensures), record { full_is = refl; most = omega (arith, c.if-held-ge-MOST_FIXES.true); entry = r.entry; disk = r.disk }, r.unmoved) r.entry refl (λ bad is. absurd (cc))

pub returns-in-None-clause-answers : goal.returns-in-None-clause-answers
returns-in-None-clause-answers g c = c.fix_absent.ensures.answers c.args.held (omega (arith, c.if-held-ge-MOST_FIXES.false))

pub grant-requires-clause-caller : goal.grant-requires-clause-caller
grant-requires-clause-caller g c = λ κs within. may_fix g.D.PageDisk.seen _ c.args.by c.args.held c.args.page c.requires.ready c.requires.asked (omega (arith, c.if-held-ge-MOST_FIXES.false))

pub returns-in-Some-clause-keeps : goal.returns-in-Some-clause-keeps
returns-in-Some-clause-keeps g c = keeps_most g.D.PageDisk.seen 1 4 _ _ (omega arith) (c.grant.ensures.keeps (log_seen g.R.RedoDisk.seen c.args.redo.now))

pub returns-in-Some-clause-answers : goal.returns-in-Some-clause-answers
returns-in-Some-clause-answers g c =
    let m = moment_of g.F.Frames.seen g.R.RedoDisk.seen c.args.self.now c.args.frames.now c.args.redo.now in
    let n = moment_of g.F.Frames.seen g.R.RedoDisk.seen c.grant.new.self c.grant.new.frames c.args.redo.now in
    record {
      granted = inl c.grant.ensures.hit;
      inside = omega (arith, c.if-page-pages.false, c.pages-pages.ensures);
      few = omega (arith, c.if-held-ge-MOST_FIXES.false);
      log = uses_more m m n c.args.by _ (λ mark. tt) c.grant.ensures.hit.entry refl (uses_none m);
      as_long = refl;
      idle = λ none. refl;
      covered = inl refl;
      valued = λ o before. value_some o m.frames (row_at m.frames c.in-Some.frame).image (value o.size o.base m.desk.history c.args.page) (before.values c.args.page c.in-Some.frame (sym c.in-Some.ensures.home));
    }
