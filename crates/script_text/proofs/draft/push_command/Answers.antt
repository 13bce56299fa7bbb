use Rattle.std.proofs.Common.{rules, ◌-◌}
use Rattle.script_text.proofs.Threads.{command_put}
use Rattle.script_text.proofs.draft.push_command.Goals as goal

pub returns : goal.returns
returns c = command_put (λ t. t.items) c.args.threads.now.items c.push.new.self c.index_mut-thread.result.now c.args.command (c.len-last.result - 1) (search rules) (search rules) (search rules)
