use Rattle.std.proofs.Common.{◌≡◌, ◌<◌, ◌≤◌, ◌+◌, ◌⊎◌, [], length, refl, ap, ◌∙◌, rules, arith, inr}
use Rattle.page_ids.specs.declared.config.Config.{Config}
use Rattle.trail.specs.declared.event.Dirty.{Dirty}
use Rattle.trail.specs.Dirt.{dirty}
use Rattle.desk.specs.Moments.{moment_of}
use Rattle.desk.proofs.Changing.{alone_rows}
use Rattle.desk.proofs.Cleaning.{writes_count}
use Rattle.desk.proofs.Flushing.{first_is, written_none, written_more, written_all, written_full, unwritten_next, written_few, not_needed, next_not_needed, one_more, durable_next}
use Rattle.desk.proofs.Moments.{keeps_most, keeps_on}
use Rattle.desk.proofs.desk.Desk.write_back_all.Goals as goal

pub loop-written-init : goal.loop-written-init
loop-written-init g c = record {
  written = written_none g.D.PageDisk.seen (moment_of g.F.Frames.seen g.R.RedoDisk.seen c.args.self.now c.args.frames.now c.args.redo.now) c.args.by c.requires.ready.rest c.requires.ready.turn;
  room = omega arith;
  idle = λ none. refl;
}

pub write_back-requires-clause-entries : goal.write_back-requires-clause-entries
write_back-requires-clause-entries g c κs within =
    let n = c.loop-written.written in
    let inv = c.loop-written.invariant in
    let old = c.args.self.now.state in
    let count = writes_count old.config.first c.args.by n old.history c.loop-written.self.state.history inv.written.writes in
    let some = ap (length {A = Dirty}) c.in-Some.ensures.some.1 in
    let first : c.loop-written.self.state.config.first ≡ old.config.first = ap (λ (x : Config). x.first) inv.written.keeps.desk.config in
    let places = c.requires.entries.places in
    let room = inv.room in
    let below : n < c.args.most = search rules in
    let one = c.requires.entries.room (n + 1) (omega (arith, below)) (omega (arith, count.0, some)) in
    record { places = omega (arith, count.0, count.1, some, first, places); room = omega (arith, one, room, count.1) }

pub write_back-requires-clause-ready : goal.write_back-requires-clause-ready
write_back-requires-clause-ready g c κs within =
    let inv = c.loop-written.invariant.written in
    record { rest = inv.keeps.rest; turn = inv.put.turn; known = inv.keeps.known c.requires.ready.known }

pub write_back-requires-clause-alone : goal.write_back-requires-clause-alone
write_back-requires-clause-alone g c κs within =
    alone_rows (g.F.Frames.seen c.args.frames.now) (g.F.Frames.seen c.loop-written.frames) c.loop-written.invariant.written.put.unmoved c.requires.alone

pub write_back-requires-clause-first : goal.write_back-requires-clause-first
write_back-requires-clause-first g c κs within = first_is c.loop-written.self.state.history _ c.in-Some.ensures.some c.in-Some.ensures.resident c.in-Some.ensures.logged

pub returns-in-Err-clause-keeps : goal.returns-in-Err-clause-keeps
returns-in-Err-clause-keeps g c =
    let S = g.D.PageDisk.seen in
    let n = c.loop-written.written in
    let inv = c.loop-written.invariant.written in
    let few = written_few S _ _ c.args.by n inv in
    let some = ap (length {A = Dirty}) c.in-Some.ensures.some.1 in
    keeps_most S (n + 1) (length (dirty c.args.self.now.state.history)) _ _ (omega (arith, few, some)) (keeps_on S n 1 _ _ _ inv.keeps c.write_back.ensures.keeps)

pub returns-in-Err-clause-answers : goal.returns-in-Err-clause-answers
returns-in-Err-clause-answers g c =
    let below : c.loop-written.written < c.args.most = search rules in
    unwritten_next g.D.PageDisk.seen _ _ _ c.args.by c.args.most c.loop-written.written _ c.in-Err.error c.loop-written.invariant.written below (first_is c.loop-written.self.state.history _ c.in-Some.ensures.some c.in-Some.ensures.resident c.in-Some.ensures.logged) c.in-Err.ensures.answers

pub returns-in-Err-clause-left : goal.returns-in-Err-clause-left
returns-in-Err-clause-left g c =
    let was = c.loop-written.invariant.written.put in
    let is = c.write_back.ensures.left in
    record { unmoved = is.unmoved ∙ was.unmoved; turn = is.turn; end = is.end ∙ was.end; behind = λ o before. is.behind o (was.behind o before) }

pub returns-in-Err-clause-room : goal.returns-in-Err-clause-room
returns-in-Err-clause-room g c =
    let was = c.loop-written.invariant.room in
    let is = c.write_back.ensures.room in
    omega (arith, was, is)

pub returns-in-Err-clause-idle : goal.returns-in-Err-clause-idle
returns-in-Err-clause-idle g c = λ none.
    let S = g.D.PageDisk.seen in
    let n = c.loop-written.written in
    let inv = c.loop-written.invariant in
    let below : n < c.args.most = search rules in
    let first = first_is c.loop-written.self.state.history _ c.in-Some.ensures.some c.in-Some.ensures.resident c.in-Some.ensures.logged in
    let whole = next_not_needed S _ _ c.args.by c.args.most n _ inv.written below first none in
    c.write_back.ensures.idle (durable_next S _ _ c.args.by n _ inv.written first c.requires.ready.known whole) ∙ inv.idle (inr whole)

pub returns-in_default-clause-keeps : goal.returns-in_default-clause-keeps
returns-in_default-clause-keeps g c =
    let S = g.D.PageDisk.seen in
    let n = c.loop-written.written in
    let inv = c.loop-written.invariant.written in
    let few = written_few S _ _ c.args.by n inv in
    keeps_most S n (length (dirty c.args.self.now.state.history)) _ _ (omega (arith, few)) inv.keeps

pub returns-in_default-clause-answers : goal.returns-in_default-clause-answers
returns-in_default-clause-answers g c =
    let n = c.loop-written.written in
    let below : n < c.args.most = search rules in
    let clean : dirty c.loop-written.self.state.history ≡ [] = c.first_dirty.ensures.none (search rules) in
    written_all g.D.PageDisk.seen _ _ c.args.by c.args.most n c.loop-written.invariant.written (omega (arith, below)) (inr clean)

pub returns-in_default-clause-left : goal.returns-in_default-clause-left
returns-in_default-clause-left g c = c.loop-written.invariant.written.put

pub returns-in_default-clause-idle : goal.returns-in_default-clause-idle
returns-in_default-clause-idle g c = λ none.
    let n = c.loop-written.written in
    let below : n < c.args.most = search rules in
    let inv = c.loop-written.invariant in
    inv.idle (not_needed g.D.PageDisk.seen _ _ c.args.by c.args.most n inv.written (omega (arith, below)) none)

pub loop-written-preserved : goal.loop-written-preserved
loop-written-preserved g c =
    let S = g.D.PageDisk.seen in
    let n = c.loop-written.written in
    let inv = c.loop-written.invariant in
    let was = inv.room in
    let is = c.write_back.ensures.room in
    let first = first_is c.loop-written.self.state.history _ c.in-Some.ensures.some c.in-Some.ensures.resident c.in-Some.ensures.logged in
    record {
      written = written_more S _ _ _ c.args.by n inv.written c.write_back.ensures.keeps c.write_back.ensures.left c.in-Ok.ensures.answers;
      room = omega (arith, was, is);
      idle = λ (none : (n + 1 ≡ 0) ⊎ (c.args.redo.now.seen.end ≤ c.args.redo.now.seen.durable)).
          let whole = one_more n none in
          c.write_back.ensures.idle (durable_next S _ _ c.args.by n _ inv.written first c.requires.ready.known whole) ∙ inv.idle (inr whole);
    }

pub returns-clause-keeps : goal.returns-clause-keeps
returns-clause-keeps g c =
    let S = g.D.PageDisk.seen in
    let n = c.loop-written.written in
    let inv = c.loop-written.invariant.written in
    let few = written_few S _ _ c.args.by n inv in
    keeps_most S n (length (dirty c.args.self.now.state.history)) _ _ (omega (arith, few)) inv.keeps

pub returns-clause-answers : goal.returns-clause-answers
returns-clause-answers g c =
    let n = c.loop-written.written in
    let all : n ≡ c.args.most = search rules in
    written_full g.D.PageDisk.seen _ _ c.args.by c.args.most n c.loop-written.invariant.written all

pub returns-clause-left : goal.returns-clause-left
returns-clause-left g c = c.loop-written.invariant.written.put

pub returns-clause-idle : goal.returns-clause-idle
returns-clause-idle g c = λ none.
    let n = c.loop-written.written in
    let all : n ≡ c.args.most = search rules in
    let inv = c.loop-written.invariant in
    inv.idle (not_needed g.D.PageDisk.seen _ _ c.args.by c.args.most n inv.written (omega (arith, all)) none)
