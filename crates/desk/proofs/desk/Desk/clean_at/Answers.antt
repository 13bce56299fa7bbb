use Rattle.std.proofs.Common.{◌<◌, ◌≤◌, ◌+◌, ◌^◌, ℕ, length, refl, ap, sym, subst, rules}
use Rattle.trail.specs.Dirt.{dirty, log_end}
use Rattle.desk.specs.Behind.{IsBehind}
use Rattle.desk.specs.Changes.{AreMarked}
use Rattle.desk.specs.Cleans.{Cleans, LeavesClean, NeedsNoLog}
use Rattle.desk.specs.Moments.{Keeps, IsAtRest, moment, moment_of, log_seen}
use Rattle.desk.specs.State.{State}
use Rattle.desk.proofs.Cleaning.{marked_none}
use Rattle.desk.proofs.Flushing.{or_still}
use Rattle.desk.proofs.Moments.{keeps_reserved}
use Rattle.instance_lists.proofs.Dirt.{length-dirty}
use Rattle.desk.proofs.desk.Desk.clean_at.Goals as goal

pub clean_reserved-requires-clause-entries : goal.clean_reserved-requires-clause-entries
clean_reserved-requires-clause-entries g c κs within =
    let room : (n : ℕ) → n ≤ c.args.bound → n ≤ length (dirty c.room_for.new.self.state.history) → n < c.room_for.new.self.room = search rules in record {
      places = subst (λ (x : State g.row.D.Denot). x.config.first + length x.history + length (dirty x.history) + 1 < 2 ^ 48) (sym c.room_for.ensures.same) c.requires.places;
      room = room;
    }

pub clean_reserved-requires-clause-ready : goal.clean_reserved-requires-clause-ready
clean_reserved-requires-clause-ready g c κs within = record {
  rest = subst (λ (d : State g.row.D.Denot). IsAtRest g.D.PageDisk.seen d (g.F.Frames.seen c.args.frames.now)) (sym c.room_for.ensures.same) c.requires.ready.rest;
  turn = c.requires.ready.turn;
  known = subst (λ (d : State g.row.D.Denot). log_end d.history ≤ c.args.redo.now.seen.end) (sym c.room_for.ensures.same) c.requires.ready.known;
}

pub returns-then-is_err-clause-keeps : goal.returns-then-is_err-clause-keeps
returns-then-is_err-clause-keeps g c =
    keeps_reserved g.D.PageDisk.seen _ _ c.room_for.new.self.state (g.F.Frames.seen c.args.frames.now) (log_seen g.R.RedoDisk.seen c.args.redo.now) c.room_for.ensures.same c.requires.ready.rest

pub returns-then-is_err-clause-answers : goal.returns-then-is_err-clause-answers
returns-then-is_err-clause-answers g c = (c.room_for.ensures.same, refl)

pub returns-then-is_err-clause-left : goal.returns-then-is_err-clause-left
returns-then-is_err-clause-left g c =
    let durable = c.args.redo.now.seen.durable in
    let end = c.args.redo.now.seen.end in
    let old = c.args.self.now.state in
    let same = c.room_for.ensures.same in
    record {
      unmoved = refl;
      end = refl;
      mark = durable;
      marked = subst (λ (x : State g.row.D.Denot). AreMarked durable end durable old.history x.history) (sym same) (marked_none durable end old.history);
      left = λ unsynced. refl;
      unused = λ unsynced none. ap (λ (x : State g.row.D.Denot). x.disk) same;
      unlogged = λ none. refl;
      behind = λ o before. subst (λ (d : State g.row.D.Denot). IsBehind g.D.PageDisk.seen o d (g.F.Frames.seen c.args.frames.now)) (sym same) before;
    }

pub returns-then-is_err-clause-few : goal.returns-then-is_err-clause-few
returns-then-is_err-clause-few g c =
    let few : length (dirty c.args.self.now.state.history) ≤ c.args.self.now.state.config.frames = search rules in
    (few, length-dirty c.args.self.now.state.history)

pub returns-clause-keeps : goal.returns-clause-keeps
returns-clause-keeps g c =
    let s = g.F.Frames.seen c.args.frames.now in
    let l = log_seen g.R.RedoDisk.seen c.args.redo.now in
    let n = moment_of g.F.Frames.seen g.R.RedoDisk.seen c.clean_reserved.new.self c.clean_reserved.new.frames c.clean_reserved.new.redo in
    subst (λ (d : State g.row.D.Denot). Keeps g.D.PageDisk.seen (length (dirty d.history) + 1) (moment d s l) n) c.room_for.ensures.same c.clean_reserved.ensures.keeps

pub returns-clause-answers : goal.returns-clause-answers
returns-clause-answers g c =
    let s = g.F.Frames.seen c.args.frames.now in
    let l = log_seen g.R.RedoDisk.seen c.args.redo.now in
    let n = moment_of g.F.Frames.seen g.R.RedoDisk.seen c.clean_reserved.new.self c.clean_reserved.new.frames c.clean_reserved.new.redo in
    subst (λ (d : State g.row.D.Denot). Cleans g.D.PageDisk.seen (moment d s l) n c.args.by c.args.bound c.args.sync c.clean_reserved.result) c.room_for.ensures.same c.clean_reserved.ensures.answers

pub returns-clause-left : goal.returns-clause-left
returns-clause-left g c =
    let s = g.F.Frames.seen c.args.frames.now in
    let l = log_seen g.R.RedoDisk.seen c.args.redo.now in
    let n = moment_of g.F.Frames.seen g.R.RedoDisk.seen c.clean_reserved.new.self c.clean_reserved.new.frames c.clean_reserved.new.redo in
    subst (λ (d : State g.row.D.Denot). LeavesClean g.D.PageDisk.seen (moment d s l) n c.args.bound c.args.sync c.clean_reserved.result) c.room_for.ensures.same c.clean_reserved.ensures.left

pub returns-clause-few : goal.returns-clause-few
returns-clause-few g c =
    let few : length (dirty c.args.self.now.state.history) ≤ c.args.self.now.state.config.frames = search rules in
    (few, length-dirty c.args.self.now.state.history)

pub returns-clause-idle : goal.returns-clause-idle
returns-clause-idle g c = λ none.
    let s = g.F.Frames.seen c.args.frames.now in
    let l = log_seen g.R.RedoDisk.seen c.args.redo.now in
    c.clean_reserved.ensures.idle (or_still (subst (λ (d : State g.row.D.Denot). NeedsNoLog (moment d s l) c.args.bound c.args.sync) (sym c.room_for.ensures.same)) none)
