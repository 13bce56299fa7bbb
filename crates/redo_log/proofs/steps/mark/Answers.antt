use Rattle.std.proofs.Common.{rules}
use Rattle.redo_log.proofs.Keeps.{rises}
use Rattle.redo_log.proofs.steps.mark.Goals as goal

pub swap_as-requires : goal.swap_as-requires
swap_as-requires g c = (
  search rules,
  (
    search rules,
    (
      search rules,
      rises _ _ c.args.end c.args.durable c.args.faults c.requires.keeps c.requires.end
          c.requires.later.0 c.requires.later.1 c.requires.sound.0 c.requires.sound.1 c.requires.share,
    ),
  ),
)
