use Rattle.trail.proofs.Ranked.{only_merged}
use Rattle.trail.proofs.merging.one_trail_is_merged.Goals as goal

pub returns : goal.returns
returns c = record { only = only_merged }
