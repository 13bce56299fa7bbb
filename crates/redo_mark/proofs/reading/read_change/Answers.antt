use Rattle.std.proofs.Common.{rules, arith}
use Rattle.redo_mark.specs.Reading.{IsRecord}
use Rattle.redo_mark.proofs.Wholes.{record_fits, whole_record, fields_of}
use Rattle.redo_mark.proofs.Refusals.{end_of_record, not_refused, one_change}
use Rattle.redo_mark.proofs.reading.read_change.Goals as goal

pub returns-in_err-kind-clause-exact : goal.returns-in_err-kind-clause-exact
returns-in_err-kind-clause-exact c = λ change fits whole.
    let r = fields_of c.args.bytes.now c.args.start change fits c.requires.limit whole in
    absurd (not_refused _ _ _ _ _ (end_of_record _ _ change r) c.in_err-kind.ensures.refused)

pub returns-clause-whole : goal.returns-clause-whole
returns-clause-whole c =
    let r : IsRecord c.args.bytes.now c.args.start (record { page = record { space = c.read_u32.result; page = c.read_u32-2.result }; kind = c.in_ok-kind.kind; at = c.from.result; bytes = c.of.result }) = search rules in
    (record_fits _ _ _ (λ i. omega (arith, c.type_inv.bytes i)) r, whole_record _ _ _ (λ i. omega (arith, c.type_inv.bytes i)) r)

pub returns-clause-exact : goal.returns-clause-exact
returns-clause-exact c = λ change fits whole.
    let r : IsRecord c.args.bytes.now c.args.start (record { page = record { space = c.read_u32.result; page = c.read_u32-2.result }; kind = c.in_ok-kind.kind; at = c.from.result; bytes = c.of.result }) = search rules in
    one_change _ _ _ _ r (fields_of c.args.bytes.now c.args.start change fits c.requires.limit whole)
