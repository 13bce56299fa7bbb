use Rattle.std.proofs.Common.{◌≡◌, ◌++◌, drop}
use Rattle.script_text.specs.Printed.{commands_items, items_text}
use Rattle.script_text.proofs.printer.push_commands.Given as goal

abbrev pub invariant-loop-command : goal.invariant-loop-command
invariant-loop-command l = l.out.items ++ items_text (commands_items (drop l.command-index l.commands)) ≡ l.fn.out.items ++ items_text (commands_items l.commands)
