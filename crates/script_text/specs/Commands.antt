-- The program's commands as a command line's parser takes them, and what it found says.
use Rattle.std.specs.Prelude.{ℕ, true, List, ◌≡◌, ◌^◌, codes, Option, None, Some, if◌then◌else◌}
use Rattle.std.specs.Str.{bytes_eq}
use Rattle.clap.specs.Words.{App, Row, Rule, Text, first_of, new_app, new_rule, with_rule, with_subcommand}
use Rattle.clap.specs.Simple.{on_top}
use Rattle.page_ids.specs.Numerals.{number_of}
use Rattle.script_text.specs.Reading.{◌>>=◌}
use Rattle.script_text.specs.declared.program.Program.{Program}
use Rattle.script_text.specs.declared.program.Program.TheVariants.{Run, Check}

-- a word that has to stand there
abbrev pub wanted : Text → Rule
wanted id = record (new_rule id) { required = true }

abbrev pub run_command : App
run_command = with_rule (with_rule (with_rule (new_app (codes "run")) (wanted (codes "space"))) (wanted (codes "file"))) (wanted (codes "log"))

abbrev pub check_command : App
check_command = new_app (codes "check")

-- the words begin with the command; help and version are off
abbrev pub top_command : App
top_command = on_top (λ s. record s {
  no_binary_name = true;
  disable_help_flag = true;
  disable_version_flag = true;
  disable_help_subcommand = true;
  subcommand_required = true;
}) (new_app (codes "innopool"))

abbrev pub commands : App
commands = with_subcommand (with_subcommand top_command run_command.top) check_command.top

-- what the words behind `run` call for
abbrev pub run_found : List Row → Option Program
run_found rows =
    first_of (codes "space") rows >>= λ space. number_of (2 ^ 32) space
    >>= λ n. first_of (codes "file") rows >>= λ file. first_of (codes "log") rows >>= λ log. Some (Run n file log)

-- what a command that was found, with the words behind it, calls for
abbrev pub found : Option (Text × List Row) → Option Program
found None = None
found (Some p) =
    if bytes_eq p.0 (codes "run") then run_found p.1
    else if bytes_eq p.0 (codes "check") then Some Check
    else None
