use Rattle.std.proofs.Common.{rules, sym, ◌∙◌}
use Rattle.redo_log.proofs.Keeps.{takes}
use Rattle.redo_log.proofs.steps.take.Goals as goal

pub join_pass-requires : goal.join_pass-requires
join_pass-requires c =
    (search rules, (search rules, ((c.requires.cell.0, c.requires.cell.1 ∙ sym c.requires.cell.0, c.requires.keeper.2), takes _ _ _ _ c.requires.keeper.0 c.requires.keeper.1)))
