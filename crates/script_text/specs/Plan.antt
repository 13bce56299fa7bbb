-- What a script asks for.
use Rattle.std.specs.Prelude.{List, [], ◌∷◌}
use Rattle.page_ids.specs.declared.config.Config.{Config}
use Rattle.script_text.specs.declared.script.Command.{Command}

-- the numbers of a pool, and the commands of each thread
pub record Plan : Type 0 where
  pub config : Config
  pub threads : List (List Command)

abbrev pub first_thread : List (List Command) → List Command
first_thread [] = []
first_thread (commands ∷ others) = commands

-- the commands of thread 1
abbrev pub commands_of : Plan → List Command
commands_of plan = first_thread plan.threads
