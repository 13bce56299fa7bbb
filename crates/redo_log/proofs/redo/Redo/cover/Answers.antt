use Rattle.std.proofs.Common.{arith, ap, ◌∙◌}
use Rattle.redo_log.specs.Passes.{Known}
use Rattle.redo_log.proofs.Agreement.{same_error}
use Rattle.redo_log.proofs.redo.Redo.cover.Goals as goal

pub returns-in-Err-clause-unused : goal.returns-in-Err-clause-unused
returns-in-Err-clause-unused g c = λ l end is. c.in-Err.ensures.unused l end (same_error _ _ is) ∙ ap (λ (k : Known). k.met) c.pass.view_is

pub returns-in-Err-clause-fault : goal.returns-in-Err-clause-fault
returns-in-Err-clause-fault g c = λ before after is.
    let f = c.in-Err.ensures.fault before after (same_error _ _ is) in
    let was = ap (λ (k : Known). k.faults) c.pass.view_is in
    let met = ap (λ (k : Known). k.met) c.pass.view_is in
    (record { first = omega (arith, f.0.first, was); rose = f.0.rose; last = f.0.last; met = omega (arith, f.0.met, met) }, f.1, f.2)
