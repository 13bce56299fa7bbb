use Rattle.std.proofs.Common.{rules}
use Rattle.script_text.proofs.Printing.{plan_printed}
use Rattle.script_text.proofs.printer.print_script.Goals as goal

pub returns-clause-ok : goal.returns-clause-ok
returns-clause-ok c = plan_printed c.args.script.now _ c.args.out.now.items c.extend_from_slice.new.self.items c.push_threads.new.out.items c.push_settings.new.out.items (search rules) (search rules) (search rules) c.threads.ensures
