use Rattle.std.proofs.Common.{rules, ◌≡◌, ◌∙◌, ap, ap₂, codes, true}
use Rattle.std.proofs.lemmas.Result.{IfOk-weaker}
use Rattle.clap.specs.Words.{App, app_of, new_app, with_subcommand}
use Rattle.clap.specs.Simple.{app_of_fields, on_top}
use Rattle.script_text.specs.Commands.{top_command}
use Rattle.script_text.proofs.command_line.commands.Goals as goal

abbrev bare : App → App
bare = on_top (λ s. record s { no_binary_name = true })

abbrev no_help : App → App
no_help = on_top (λ s. record s { disable_help_flag = true })

abbrev no_version : App → App
no_version = on_top (λ s. record s { disable_version_flag = true })

abbrev no_help_command : App → App
no_help_command = on_top (λ s. record s { disable_help_subcommand = true })

abbrev with_command_required : App → App
with_command_required = on_top (λ s. record s { subcommand_required = true })

pub returns : goal.returns
returns c =
    let one : app_of c.no_binary_name.result ≡ bare (new_app (codes "innopool")) = ap app_of_fields c.no_binary_name.ensures ∙ ap bare c.new.ensures.app in
    let two : app_of c.disable_help_flag.result ≡ no_help (app_of c.no_binary_name.result) = ap app_of_fields c.disable_help_flag.ensures in
    let three : app_of c.disable_version_flag.result ≡ no_version (app_of c.disable_help_flag.result) = ap app_of_fields c.disable_version_flag.ensures in
    let four : app_of c.disable_help_subcommand.result ≡ no_help_command (app_of c.disable_version_flag.result) = ap app_of_fields c.disable_help_subcommand.ensures in
    let five : app_of c.subcommand_required.result ≡ with_command_required (app_of c.disable_help_subcommand.result) = ap app_of_fields c.subcommand_required.ensures in
    let top_is : app_of c.subcommand_required.result ≡ top_command =
    five ∙ ap with_command_required (four ∙ ap no_help_command (three ∙ ap no_version (two ∙ ap no_help one))) in
    let run_is = c.in_ok-subcommand.ensures.shape c.in_ok-run.ensures.1 ∙ ap₂ with_subcommand top_is (ap (λ (a : App). a.top) c.in_ok-run.ensures.0) in
    IfOk-weaker c.subcommand-2.result _ _ (λ m h. h.shape c.new-check.ensures.local ∙ ap₂ with_subcommand run_is (ap (λ (a : App). a.top) c.new-check.ensures.app)) c.subcommand-2.ensures
