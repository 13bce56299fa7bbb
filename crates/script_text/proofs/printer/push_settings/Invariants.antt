use Rattle.std.proofs.Common.{◌≡◌, ◌++◌, drop}
use Rattle.page_ids.specs.Fields.{fields}
use Rattle.script_text.specs.Printed.{settings_items, all_settings, items_text}
use Rattle.script_text.proofs.printer.push_settings.Given as goal

abbrev pub invariant-loop-field : goal.invariant-loop-field
invariant-loop-field l = l.out.items ++ items_text (settings_items l.config (drop l.field-index fields)) ≡ l.fn.out.items ++ items_text (all_settings l.config)
