use Rattle.std.proofs.Common.{◌≡◌, true≢false, sym, arith, ap, ◌∙◌}
use Rattle.crossbeam_utils.specs.Seq.{cell_view}
use Rattle.redo_mark.specs.Logs.{LogState}
use Rattle.redo_log.specs.declared.view.View.{View}
use Rattle.redo_log.proofs.Agreement.{below}
use Rattle.redo_log.proofs.turns.cover.Goals as goal

pub returns-in-Err-clause-fault : goal.returns-in-Err-clause-fault
returns-in-Err-clause-fault g c = λ before after is.
    let e = c.in-Err.ensures in
    let f = e.fault before after is in
    let turn = c.requires.turn in
    let w = c.mark.ensures.view in
    let faults : (cell_view c.mark.new.seat).faults ≡ c.cover-answer.new.self.seen.faults = ap (λ (v : View). v.faults) w ∙ c.faults.ensures in
    let durable : (cell_view c.mark.new.seat).durable ≡ c.cover-answer.new.self.seen.durable = ap (λ (v : View). v.durable) w ∙ c.durable.ensures in
    let end = ap (λ (v : View). v.end) w in
    let met = ap (λ (v : View). v.met) w in
    let stays = ap (λ s. s.durable) e.err in (
      record {
        first = omega (arith, f.0.first, turn.faults);
        rose = f.0.rose;
        last = omega (arith, f.1, faults);
        met = omega (arith, met, f.0.first, f.1, c.faults.ensures, turn.agrees.faults);
      },
      omega (arith, f.2, end, turn.agrees.end, e.end),
      below _ _ (λ le. true≢false (sym (e.idle (omega (arith, le, durable, stays))).1)),
    )

pub returns-in-Err-clause-unused : goal.returns-in-Err-clause-unused
returns-in-Err-clause-unused g c = λ l end is.
    let same = ap (λ (s : LogState g.row.R.Denot). s.seen.faults) (c.in-Err.ensures.beyond l end is).3 in
    let met = ap (λ (v : View). v.met) c.mark.ensures.view in
    omega (arith, met, same, c.faults.ensures, c.requires.turn.agrees.faults)
