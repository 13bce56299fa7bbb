use Rattle.std.proofs.Common.{arith, ap, ◌∙◌}
use Rattle.redo_log.specs.Passes.{Known}
use Rattle.redo_log.proofs.redo.Redo.reach.Goals as goal

pub returns-clause-beyond : goal.returns-clause-beyond
returns-clause-beyond g c = λ l end is.
    let b = c.cover-answer.ensures.beyond l end is in
    let left = ap (λ (k : Known). k.end) c.leave.ensures.known in
    let looked = c.look-marks.ensures.view.end in
    let entered = c.enter-log.ensures.goes.end in
    let covered = c.cover-answer.ensures.goes.end in
    (b.0, omega (arith, b.1, looked, entered, covered), omega (arith, b.1, left), b.2)

pub returns-clause-unused : goal.returns-clause-unused
returns-clause-unused g c = λ l end is.
    let met = ap (λ (k : Known). k.met) c.leave.ensures.known in
    met ∙ c.cover-answer.ensures.unused l end is ∙ c.enter-log.ensures.rest.1 ∙ c.look-marks.ensures.view.same.3

pub returns-clause-fault : goal.returns-clause-fault
returns-clause-fault g c = λ before after is.
    let f = c.cover-answer.ensures.fault before after is in
    let end = ap (λ (k : Known). k.end) c.leave.ensures.known in
    let durable = ap (λ (k : Known). k.durable) c.leave.ensures.known in
    let faults = ap (λ (k : Known). k.faults) c.leave.ensures.known in
    let looked = c.look-marks.ensures.view.faults in
    let entered = c.enter-log.ensures.goes.faults in
    let met = ap (λ (k : Known). k.met) c.leave.ensures.known in (
      record {
        first = omega (arith, f.0.first, looked, entered);
        rose = f.0.rose;
        last = omega (arith, f.0.last, faults);
        met = omega (arith, f.0.met, met, c.enter-log.ensures.rest.1, c.look-marks.ensures.view.same.3);
      },
      omega (arith, f.1, end),
      omega (arith, f.2, durable),
    )
