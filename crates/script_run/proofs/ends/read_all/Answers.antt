use Rattle.std.proofs.Common.{◌≡◌, inl, inr, ◌++◌, length, vec_len, rules, arith, ap, ◌∙◌, sym}
use Rattle.script_run.proofs.Reading.{later_refusal, all_taken, more_taken}
use Rattle.script_run.proofs.ends.read_all.Goals as goal

pub loop-source-init : goal.loop-source-init
loop-source-init g c = (search rules, omega (arith, c.new-all.ensures.len), omega arith, record { given = λ bytes e. (bytes, e, ap (λ l. l ++ bytes) (sym c.new-all.ensures.items)) })

pub loop-source-preserved : goal.loop-source-preserved
loop-source-preserved g c =
    let inv = c.loop-source.invariant in
    let more = c.in-Ok-true.ensures in (
      more.piece,
      more.most,
      omega (arith, inv.2, more.later),
      record {
        given = λ bytes e.
            let before = inv.3.given bytes e in
            let after = more.given before.0 before.1 in
            (after.0, after.1, before.2 ∙ after.2);
      },
    )

pub returns-in-Ok-false-clause-given : goal.returns-in-Ok-false-clause-given
returns-in-Ok-false-clause-given g c = λ bytes e.
    let before = c.loop-source.invariant.3.given bytes e in
    let after = c.in-Ok-false.ensures.given before.0 before.1 in
    (after.0, after.1, before.2 ∙ after.2, inl (after.3 c.in-Ok-false.field-0-test))

pub returns-in-Err-clause-refused : goal.returns-in-Err-clause-refused
returns-in-Err-clause-refused g c = later_refusal _ _ _ c.in-Err.error c.loop-source.invariant.2 c.in-Err.ensures.refused

pub returns-clause-given : goal.returns-clause-given
returns-clause-given g c = λ bytes e.
    let before = c.loop-source.invariant.3.given bytes e in
    let whole : length c.loop-source.all.items ≡ vec_len c.loop-source.all = search rules in
    (before.0, before.1, before.2, inr (omega (arith, whole, c.loop-source-test.false, c.len.ensures, c.loop-source.invariant.1)))

pub returns-in-Ok-false-clause-taken : goal.returns-in-Ok-false-clause-taken
returns-in-Ok-false-clause-taken g c =
    let whole : length c.loop-source.all.items ≡ vec_len c.loop-source.all = search rules in
    more_taken 1048577 (vec_len c.loop-source.all) c.loop-source.all.items _ _ _ whole c.loop-source.invariant.3.given c.take_more.ensures.taken

pub returns-in-Err-clause-taken : goal.returns-in-Err-clause-taken
returns-in-Err-clause-taken g c =
    let whole : length c.loop-source.all.items ≡ vec_len c.loop-source.all = search rules in
    more_taken 1048577 (vec_len c.loop-source.all) c.loop-source.all.items _ _ _ whole c.loop-source.invariant.3.given c.take_more.ensures.taken

pub returns-clause-taken : goal.returns-clause-taken
returns-clause-taken g c =
    let whole : length c.loop-source.all.items ≡ vec_len c.loop-source.all = search rules in
    all_taken 1048577 (vec_len c.loop-source.all) c.loop-source.all.items _ _ whole c.loop-source.invariant.1 c.loop-source.invariant.3.given
