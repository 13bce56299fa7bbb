use Rattle.std.proofs.Common.{sym, subst}
use Rattle.midpoint_lru.specs.View.{View, Has}
use Rattle.instance_lists.proofs.ListsMaking.{read_in_listed}
use Rattle.instance_lists.proofs.steps.list_made.Goals as goal

pub touch-requires : goal.touch-requires
touch-requires c = subst (λ (v : View). Has v c.args.frame) (sym c.read_in.ensures) (read_in_listed c.args.lru.now c.args.frame)
