-- The printed form of a script: all settings with their values, then the threads with their commands, each in a line of its own.
use Rattle.std.specs.Prelude.{ℕ, List, [], ◌∷◌, ◌++◌, ◌+◌, map}
use Rattle.std.specs.List.{join_with_byte}
use Rattle.page_ids.specs.Fields.{fields, setting_of}
use Rattle.page_ids.specs.declared.config.Config.{Config}
use Rattle.page_ids.specs.declared.config.Field.{Field}
use Rattle.script_text.specs.Plan.{Plan}
use Rattle.script_text.specs.Text.{item_words}
use Rattle.script_text.specs.declared.script.Command.{Command}
use Rattle.script_text.specs.declared.lines.Item.{Item}
use Rattle.script_text.specs.declared.lines.Item.TheVariants.{Set, Thread, Does}

abbrev pub settings_items : Config → List Field → List Item
settings_items config names = map (λ name. Set name (setting_of config name)) names

unfoldable pub all_settings : Config → List Item
all_settings config = settings_items config fields

abbrev pub commands_items : List Command → List Item
commands_items commands = map (λ command. Does command) commands

-- the threads from this number on
abbrev pub threads_items : ℕ → List (List Command) → List Item
threads_items number [] = []
threads_items number (commands ∷ others) = Thread number ∷ commands_items commands ++ threads_items (number + 1) others

abbrev pub plan_items : Plan → List Item
plan_items plan = all_settings plan.config ++ threads_items 1 plan.threads

-- an item's line
abbrev pub item_text : Item → List ℕ
item_text item = join_with_byte 32 (item_words item)

-- so many lines, each with its newline
abbrev pub items_text : List Item → List ℕ
items_text [] = []
items_text (item ∷ items) = item_text item ++ 10 ∷ items_text items

abbrev pub plan_text : Plan → List ℕ
plan_text plan = items_text (plan_items plan)
