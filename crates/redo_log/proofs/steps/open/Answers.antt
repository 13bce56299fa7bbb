use Rattle.std.proofs.Common.{◌<◌, ap, arith, rules}
use Rattle.redo_log.specs.declared.view.View.{View}
use Rattle.redo_log.proofs.Keeps.{opens}
use Rattle.redo_log.proofs.steps.open.Goals as goal

pub swap_as-requires : goal.swap_as-requires
swap_as-requires g c =
    let first = c.requires.first in
    let share = ap (λ (v : View). v.share) first in (
      search rules,
      (
        search rules,
        (
          search rules,
          opens _ _ c.args.end c.args.faults (ap (λ (v : View). v.keeps) first) (ap (λ (v : View). v.story) first)
              (ap (λ (v : View). v.met) first) (omega (arith, share)),
        ),
      ),
    )
