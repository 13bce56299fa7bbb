use Rattle.std.proofs.Common.{rules, ◌≡◌, ◌∙◌, ap₂, codes, Bool, ◌||◌}
use Rattle.std.proofs.lemmas.Result.{IfOk-weaker}
use Rattle.clap.specs.Words.{rule_of, with_rule}
use Rattle.script_text.specs.Commands.{wanted}
use Rattle.script_text.proofs.command_line.run_command.Goals as goal

pub returns : goal.returns
returns c =
    let space : rule_of c.wanted.result ≡ wanted (codes "space") = search rules in
    let file : rule_of c.wanted-2.result ≡ wanted (codes "file") = search rules in
    let log : rule_of c.wanted-3.result ≡ wanted (codes "log") = search rules in
    let one = c.in_ok-arg.ensures.shape c.wanted.ensures.local ∙ ap₂ with_rule c.new.ensures.app space in
    let two = c.in_ok-arg-2.ensures.shape c.wanted-2.ensures.local ∙ ap₂ with_rule one file in
    let local = c.in_ok-arg.ensures.globals ∙ ap₂ (λ (a b : Bool). a || b) c.new.ensures.local c.wanted.ensures.local in
    let local_two = c.in_ok-arg-2.ensures.globals ∙ ap₂ (λ (a b : Bool). a || b) local c.wanted-2.ensures.local in
    IfOk-weaker c.arg-3.result _ _ (λ m h. (
      h.shape c.wanted-3.ensures.local ∙ ap₂ with_rule two log,
      h.globals ∙ ap₂ (λ (a b : Bool). a || b) local_two c.wanted-3.ensures.local,
    )) c.arg-3.ensures
