use Rattle.std.proofs.Common.{rules, sym, ◌∙◌}
use Rattle.redo_log.proofs.Keeps.{gives, joins}
use Rattle.redo_log.proofs.steps.join.Goals as goal

pub split_pass-whole-requires : goal.split_pass-whole-requires
split_pass-whole-requires c = (search rules, (search rules, (search rules, gives _ _ c.requires.idle)))

pub join_pass-requires : goal.join_pass-requires
join_pass-requires c =
    let given = c.split_pass-whole.ensures.given in
    (search rules, (search rules, ((c.requires.cell.0, given.0 ∙ (c.requires.cell.1 ∙ sym c.requires.cell.0), given.2), joins _ _ _ _)))
