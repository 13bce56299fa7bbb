use Rattle.trail.proofs.RisingPages.{dirty_rise, dirty_within}
use Rattle.trail.proofs.laws.dirty_pages_rise.Goals as goal

pub returns : goal.returns
returns c = record { rising = dirty_rise; within = dirty_within }
