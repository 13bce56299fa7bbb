use Rattle.std.proofs.Common.{rules, arith, ◌+◌}
use Rattle.script_text.proofs.Printing.{threads_more}
use Rattle.script_text.proofs.printer.push_threads.Goals as goal

pub loop-commands-preserved : goal.loop-commands-preserved
loop-commands-preserved c = record {
  count = omega (arith, c.loop-commands.invariant.count);
  lines = threads_more (λ t. t.items) c.args.threads.now c.loop-commands.commands-index (c.loop-commands.number + 1) c.commands-item.result c.loop-commands.out.items c.push_thread.new.out.items c.push_commands.new.out.items _ (omega arith) c.commands-item.is (search rules) (search rules) c.loop-commands.invariant.lines;
}
