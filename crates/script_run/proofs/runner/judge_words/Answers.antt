use Rattle.std.proofs.Common.{◌≡◌, ◌∙◌, ap, sym, subst, arith, ℕ, List, [], ◌∷◌, length, map, codes, string_bytes, Err}
use Rattle.script_text.specs.CommandLine.{IsCalled}
use Rattle.script_text.specs.declared.program.Program.{Program}
use Rattle.script_text.specs.declared.program.Program.TheVariants.{Run}
use Rattle.script_text.specs.declared.program.WordsErr.{WordsErr}
use Rattle.script_text.specs.declared.program.WordsErr.TheVariants as refusal
use Rattle.script_run.proofs.runner.judge_words.Goals as goal

pub returns-in-Ok-Check-clause-usage : goal.returns-in-Ok-Check-clause-usage
returns-in-Ok-Check-clause-usage c = λ is run.
    let called : map string_bytes c.args.words.now ≡ codes "check" ∷ [] =
    subst (λ (p : Program). IsCalled (map string_bytes c.args.words.now) p) c.in-Ok-Check.field-0-is c.in-Ok-Check.ensures.called in
    let lengths : 1 ≡ 4 = ap (length {A = List ℕ}) (sym called ∙ run.3.0) in
    omega (arith, lengths)

pub returns-clause-usage : goal.returns-clause-usage
returns-clause-usage c = λ is run.
    let usage : ◌≡◌ {A = WordsErr} c.in-Err.error refusal.Usage = cc in
    c.in-Err.ensures.usage (ap (λ e. Err e) usage) (Run run.0 run.1 run.2) run.3
