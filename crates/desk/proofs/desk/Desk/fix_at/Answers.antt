use Rattle.std.proofs.Common.{◌≤◌, rules, ◌<◌, ◌+◌, ◌^◌, length, subst, sym, refl, inl}
use Rattle.desk.specs.Answers.{Fixes}
use Rattle.desk.specs.Moments.{Keeps, UsesLog, moment, log_seen}
use Rattle.desk.specs.State.{State}
use Rattle.desk.proofs.Moments.{keeps_reserved, uses_none}
use Rattle.desk.proofs.desk.Desk.fix_at.Goals as goal

pub returns-then-is_err-clause-keeps : goal.returns-then-is_err-clause-keeps
returns-then-is_err-clause-keeps g c =
    keeps_reserved g.D.PageDisk.seen 4 _ c.reserve_fix.new.self.state (g.F.Frames.seen c.args.frames.now) (log_seen g.R.RedoDisk.seen c.args.redo.now) c.reserve_fix.ensures.same c.requires.ready.rest

pub returns-then-is_err-clause-answers : goal.returns-then-is_err-clause-answers
returns-then-is_err-clause-answers g c =
    let s = g.F.Frames.seen c.args.frames.now in
    let l = log_seen g.R.RedoDisk.seen c.args.redo.now in
    let m = moment c.args.self.now.state s l in record {
      refused = (c.reserve_fix.ensures.same, refl);
      idle = λ none. refl;
      unused = refl;
      unsound = λ o bad before is. absurd (cc);
      log = subst (λ (d : State g.row.D.Denot). UsesLog m (moment d s l)) (sym c.reserve_fix.ensures.same) (uses_none m);
      as_long = refl;
      covered = inl refl;
    }

pub fix_reserved-requires-clause-entries : goal.fix_reserved-requires-clause-entries
fix_reserved-requires-clause-entries g c = λ κs within.
    let room : 4 ≤ c.reserve_fix.new.self.room = search rules in record {
      places = subst (λ (d : State g.row.D.Denot). d.config.first + length d.history + 4 < 2 ^ 48) (sym c.reserve_fix.ensures.same) c.requires.places;
      room = room;
    }

pub returns-clause-keeps : goal.returns-clause-keeps
returns-clause-keeps g c =
    let r = c.fix_reserved in
    subst (λ (d : State g.row.D.Denot). Keeps g.D.PageDisk.seen 4 (moment d (g.F.Frames.seen c.args.frames.now) (log_seen g.R.RedoDisk.seen c.args.redo.now))
    (moment r.new.self.state (g.F.Frames.seen r.new.frames) (log_seen g.R.RedoDisk.seen r.new.redo)))
    c.reserve_fix.ensures.same r.ensures.keeps

pub returns-clause-answers : goal.returns-clause-answers
returns-clause-answers g c =
    let r = c.fix_reserved in
    subst (λ (d : State g.row.D.Denot). Fixes g.D.PageDisk.seen (moment d (g.F.Frames.seen c.args.frames.now) (log_seen g.R.RedoDisk.seen c.args.redo.now))
    (moment r.new.self.state (g.F.Frames.seen r.new.frames) (log_seen g.R.RedoDisk.seen r.new.redo)) c.args.by c.args.held c.args.page c.args.now r.result)
    c.reserve_fix.ensures.same r.ensures.answers
