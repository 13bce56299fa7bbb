use Rattle.std.proofs.Common.{inl, inr}
use Rattle.std.proofs.lemmas.Result.{MatchResult-weaker}
use Rattle.dump_load.proofs.Verdicts.{one_dump, dump_not_refused, one_refusal}
use Rattle.dump_load.proofs.text.read_dump.Goals as goal

pub returns-clause-only : goal.returns-clause-only
returns-clause-only c = λ ids d. MatchResult-weaker c.read_lines.result c.read_lines.ensures
    (λ found k. one_dump c.args.bytes.now found.items ids k d)
    (λ e s. elim s [
      | inl none ↦ none
      | inr r ↦ absurd (dump_not_refused c.args.bytes.now ids e d r)
    ])

pub returns-clause-refused_only : goal.returns-clause-refused_only
returns-clause-refused_only c = λ why r. MatchResult-weaker c.read_lines.result c.read_lines.ensures
    (λ found k. dump_not_refused c.args.bytes.now found.items why k r)
    (λ e s. elim s [
      | inl none ↦ inr none
      | inr also ↦ inl (one_refusal c.args.bytes.now e why also r)
    ])
