use Rattle.std.proofs.Common.{◌≡◌, ◌++◌, ◌+◌, drop, map}
use Rattle.script_text.specs.Printed.{threads_items, items_text}
use Rattle.script_text.proofs.printer.push_threads.Given as goal

abbrev pub invariant-loop-commands : goal.invariant-loop-commands
invariant-loop-commands l = record {
  count : l.number ≡ l.commands-index;
  lines : l.out.items ++ items_text (threads_items (l.number + 1) (map (λ t. t.items) (drop l.commands-index l.threads))) ≡ l.fn.out.items ++ items_text (threads_items 1 (map (λ t. t.items) l.threads));
}
