use Rattle.std.proofs.Common.{◌≡◌, Option, length, ap, ◌∙◌, sym, subst, arith, rules, inl, inr, ⊎_elim}
use Rattle.std.specs.Prelude.{MatchResult}
use Rattle.page_disk.specs.Disks.{IsInside}
use Rattle.std.proofs.lemmas.Bool.{cases_lt}
use Rattle.page_ids.specs.Content.{Content}
use Rattle.trail.specs.Dirt.{dirty, dirt_of}
use Rattle.frame_words.specs.Rows.{laid_row, lifted_row}
use Rattle.frame_words.specs.Seen.{FramesSeen, row_at, with_row}
use Rattle.desk.specs.Changes.{IsImageTold}
use Rattle.desk.specs.Claimed.{WroteClaimed, UnwroteClaimed}
use Rattle.desk.specs.Moments.{log_seen}
use Rattle.desk.specs.Tied.{OnTold}
use Rattle.desk.specs.Writing.{Unwritten}
use Rattle.desk.proofs.Claims.{some_is, laid_back}
use Rattle.desk.proofs.Evicting.{forced_on}
use Rattle.desk.proofs.Fixing.{still_inside}
use Rattle.desk.proofs.desk.Desk.write_claimed.Goals as goal
use Rattle.desk.proofs.desk.Desk.write_claimed.Goals.{in-Ok, in-Err}

pub invariant_of-self : goal.invariant_of-self
invariant_of-self g c =
    let told = c.write_page-written.ensures in
    let was = c.self.invariant in (
      told.others.sizes ∙ was.0,
      told.buffer ∙ was.1,
      λ p f here. still_inside g.D.PageDisk.seen c.self.inside.disk c.write_page-written.new.disk p told.others.spaces_are (was.2 p f here),
    )

pub write_page-written-requires-clause-may : goal.write_page-written-requires-clause-may
write_page-written-requires-clause-may g c κs within =
    let but = c.requires.but in
    let d = some_is (dirt_of (dirty c.args.self.now.state.history) c.args.victim.page) c.requires.dirty in
    let same : c.lift-image.result ≡ but.content = subst (λ (i : Option (Option Content)). OnTold i (λ x. c.lift-image.result ≡ x)) but.image c.lift-image.ensures.image in
    let lsn : but.content.lsn ≡ d.0.newest = subst (λ (i : Option (Option Content)). OnTold i (λ x. x.lsn ≡ d.0.newest)) but.image (but.stamped c.args.victim.page c.args.victim.frame d.0 but.housed d.1) in
    let first = ap (λ (x : Content). x.lsn) same in
    let logged = c.requires.logged d.0 d.1 in
    let inside : IsInside (g.D.PageDisk.seen c.self.inside.disk).spaces c.args.victim.page = search rules in
    let sized : length c.lift-image.result.bytes ≡ (g.D.PageDisk.seen c.self.inside.disk).size = search rules in
    record { inside = inside; sized = sized; buffer_is = c.self.invariant.1 ∙ sym c.self.invariant.0; known = omega (arith, first, lsn, logged) }

pub returns-clause-seen : goal.returns-clause-seen
returns-clause-seen g c =
    let but = c.requires.but in
    let s = g.F.Frames.seen c.args.frames.now in
    let f = c.args.victim.frame in
    let image = c.lift-image.result in
    let same : image ≡ but.content = subst (λ (i : Option (Option Content)). OnTold i (λ x. image ≡ x)) but.image c.lift-image.ensures.image in
    let up = with_row s f (lifted_row (row_at s f)) in
    let below = but.below in
    let whole = but.whole in
    c.lay.ensures.seen
    ∙ ap (λ (u : FramesSeen). with_row u f (laid_row (row_at u f) image)) c.lift-image.ensures.seen
    ∙ ap (λ (x : Content). with_row up f (laid_row (row_at up f) x)) same
    ∙ laid_back s f but.content (omega (arith, below, whole)) but.image

pub returns-clause-answers : goal.returns-clause-answers
returns-clause-answers g c =
    let S = g.D.PageDisk.seen in
    let but = c.requires.but in
    let p = c.args.victim.page in
    let h = c.args.self.now.state.history in
    let was = c.args.self.now.state in
    let now = c.write_page-written.new.disk in
    let log = c.args.redo.now.seen in
    let after = c.write_page-written.new.redo.seen in
    let later = c.write_page-written.ensures.log.later.durable in
    let image = (row_at (g.F.Frames.seen c.args.frames.now) c.args.victim.frame).image in
    let d = some_is (dirt_of (dirty h) p) c.requires.dirty in
    let same : c.lift-image.result ≡ but.content = subst (λ (i : Option (Option Content)). OnTold i (λ x. c.lift-image.result ≡ x)) but.image c.lift-image.ensures.image in
    let lsn : but.content.lsn ≡ d.0.newest = subst (λ (i : Option (Option Content)). OnTold i (λ x. x.lsn ≡ d.0.newest)) but.image (but.stamped p c.args.victim.frame d.0 but.housed d.1) in
    let is : c.lift-image.result.lsn ≡ d.0.newest = ap (λ (x : Content). x.lsn) same ∙ lsn in
    elim c.match-written.branch [
      | in-Ok w ↦
          let ok = w.in-Ok.ensures.answers in
          let covered = ok.covered in
          let wrote : WroteClaimed (S was.disk) (S now) after h image p (c.lsn-lsn.result, w.in-Ok.upto) = record {
            dirt = d.0;
            was_dirty = d.1;
            lsn_is = c.lsn-lsn.ensures ∙ is;
            covered = omega (arith, covered, is);
            upto_is = ok.upto_is;
            told = λ content there.
                let it : c.lift-image.result ≡ content = subst (λ (i : Option (Option Content)). OnTold i (λ x. c.lift-image.result ≡ x)) there c.lift-image.ensures.image in
                subst (λ (x : Content). IsImageTold p x (S was.disk) (S now)) it
                (subst (λ x. IsImageTold p c.lift-image.result (S x.state.disk) (S now)) c.self.view_is ok.told);
          } in
          subst (λ r. MatchResult r (λ x. WroteClaimed (S was.disk) (S now) after h image p x) (λ e. UnwroteClaimed S was now log after p e)) (sym w.result-is) wrote
      | in-Err w ↦
          let e = w.in-Err.error in
          let failed = subst (λ x. Unwritten S x.state.disk now (log_seen g.R.RedoDisk.seen c.args.redo.now) (log_seen g.R.RedoDisk.seen c.write_page-written.new.redo) p c.lift-image.result e) c.self.view_is w.in-Err.ensures.answers in
          let unwrote : UnwroteClaimed S was now log after p e = record {
            fades = failed.fades;
            fault = failed.fault;
            forced = forced_on was.disk now e (λ lt. record { dirt = d.0; was_dirty = d.1; behind = omega (arith, lt, later, is) }) failed.forced;
          } in
          subst (λ r. MatchResult r (λ x. WroteClaimed (S was.disk) (S now) after h image p x) (λ x. UnwroteClaimed S was now log after p x)) (sym w.result-is) unwrote
    ]

pub returns-clause-covered : goal.returns-clause-covered
returns-clause-covered g c =
    let but = c.requires.but in
    let p = c.args.victim.page in
    let h = c.args.self.now.state.history in
    let d = some_is (dirt_of (dirty h) p) c.requires.dirty in
    let same : c.lift-image.result ≡ but.content = subst (λ (i : Option (Option Content)). OnTold i (λ x. c.lift-image.result ≡ x)) but.image c.lift-image.ensures.image in
    let lsn : but.content.lsn ≡ d.0.newest = subst (λ (i : Option (Option Content)). OnTold i (λ x. x.lsn ≡ d.0.newest)) but.image (but.stamped p c.args.victim.frame d.0 but.housed d.1) in
    let is : c.lift-image.result.lsn ≡ d.0.newest = ap (λ (x : Content). x.lsn) same ∙ lsn in
    ⊎_elim (λ lt. inr (record { dirt = d.0; was_dirty = d.1; behind = omega (arith, lt, is) })) (λ le. inl (c.write_page-written.ensures.idle le)) (cases_lt c.args.redo.now.seen.durable c.lift-image.result.lsn)
