use Rattle.std.proofs.Common.{◌∙◌, ap, inl, refl, rules, Err}
use Rattle.script_text.specs.declared.program.Program.TheVariants.{Check, Run}
use Rattle.script_run.proofs.no_device.plain.Goals as goal

pub returns-in-Err-Usage-clause-run : goal.returns-in-Err-Usage-clause-run
returns-in-Err-Usage-clause-run g c = λ run.
    absurd (c.command_of.ensures.usage (c.in-Err-Usage.is ∙ ap (λ e. Err e) c.in-Err-Usage.field-0-is) (Run run.0 run.1 run.2) run.3)

pub returns-in-Err-Usage-clause-ended : goal.returns-in-Err-Usage-clause-ended
returns-in-Err-Usage-clause-ended g c =
    let none = c.command_of.ensures.usage (c.in-Err-Usage.is ∙ ap (λ e. Err e) c.in-Err-Usage.field-0-is) in
    record { usage = λ _. none; usage_only = λ _. inl refl; line = λ _. refl; checked = λ called. absurd (none Check called); taken = search rules }
