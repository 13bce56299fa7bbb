use Rattle.std.proofs.Common.{◌∙◌, sym}
use Rattle.std.proofs.lemmas.Result.{IfOk-weaker}
use Rattle.script_text.proofs.Taking.{refused, taken}
use Rattle.script_text.proofs.reader.take_line.Goals as goal

pub returns-in-None : goal.returns-in-None
returns-in-None c = refused _ c.args.line.now (sym c.in_ok-item_of.ensures ∙ c.in-None.is)

pub returns-in-Some : goal.returns-in-Some
returns-in-Some c = IfOk-weaker c.take.result _ _ (λ good e. taken c.args.draft.now c.take.new.self c.args.line.now c.in-Some.item (sym c.in_ok-item_of.ensures ∙ c.in-Some.is) good e) c.take.ensures
