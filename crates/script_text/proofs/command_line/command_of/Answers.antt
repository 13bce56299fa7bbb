use Rattle.std.proofs.Common.{◌≡◌, ◌∙◌, sym, true, false, Bool, Option, None, Some, Result, Err}
use Rattle.script_text.specs.declared.program.Program.{Program}
use Rattle.script_text.specs.declared.program.WordsErr.TheVariants as refusal
use Rattle.script_text.proofs.Called.{is_found, memory_alone, parsed_called, parsed_found}
use Rattle.script_text.proofs.command_line.command_of.Goals as goal

pub returns-then-not-are_words-clause-only : goal.returns-then-not-are_words-clause-only
returns-then-not-are_words-clause-only c = λ p h.
    let bad : ◌≡◌ {A = Bool} true false = sym (is_found _ p h).words ∙ sym c.are_words.ensures ∙ c.if-not-are_words.true in absurd (cc)

pub returns-then-not-are_words-clause-usage : goal.returns-then-not-are_words-clause-usage
returns-then-not-are_words-clause-usage c = λ is p h.
    let bad : ◌≡◌ {A = Bool} true false = sym (is_found _ p h).words ∙ sym c.are_words.ensures ∙ c.if-not-are_words.true in cc

pub returns-in-Err-clause-only : goal.returns-in-Err-clause-only
returns-in-Err-clause-only c = λ p h. c.refusal.ensures.1 (memory_alone _ _ p c.in-Ok.ensures _ h c.in-Err.ensures.kinds)

pub returns-in-Err-clause-usage : goal.returns-in-Err-clause-usage
returns-in-Err-clause-usage c = λ is p h.
    let memory = c.refusal.ensures.1 (memory_alone _ _ p c.in-Ok.ensures _ h c.in-Err.ensures.kinds) in
    let bad : ◌≡◌ {A = Result Program _} (Err refusal.OutOfMemory) (Err refusal.Usage) = cc in absurd (cc)

pub returns-in-Ok-Some-clause-called : goal.returns-in-Ok-Some-clause-called
returns-in-Ok-Some-clause-called c = parsed_called _ _ c.in-Ok-Some.program c.in-Ok.ensures _ (sym c.are_words.ensures ∙ c.if-not-are_words.false)
    c.in-Ok-try_get_matches_from.ensures.matches c.in-Ok-try_get_matches_from.ensures.kinds (sym c.in-Ok-Some.ensures ∙ c.in-Ok-Some.field-0-is)

pub returns-in-Ok-Some-clause-only : goal.returns-in-Ok-Some-clause-only
returns-in-Ok-Some-clause-only c = λ p h.
    let both : Some c.in-Ok-Some.program ≡ Some p =
    sym c.in-Ok-Some.field-0-is ∙ c.in-Ok-Some.ensures ∙ parsed_found _ _ p c.in-Ok.ensures _ c.in-Ok-try_get_matches_from.ensures.matches h in cc

pub returns-in-Ok-None-clause-only : goal.returns-in-Ok-None-clause-only
returns-in-Ok-None-clause-only c = λ p h.
    let bad : ◌≡◌ {A = Option Program} None (Some p) =
    sym c.in-Ok-None.field-0-is ∙ c.in-Ok-None.ensures ∙ parsed_found _ _ p c.in-Ok.ensures _ c.in-Ok-try_get_matches_from.ensures.matches h in absurd (cc)

pub returns-in-Ok-None-clause-usage : goal.returns-in-Ok-None-clause-usage
returns-in-Ok-None-clause-usage c = λ is p h.
    let bad : ◌≡◌ {A = Option Program} None (Some p) =
    sym c.in-Ok-None.field-0-is ∙ c.in-Ok-None.ensures ∙ parsed_found _ _ p c.in-Ok.ensures _ c.in-Ok-try_get_matches_from.ensures.matches h in cc
