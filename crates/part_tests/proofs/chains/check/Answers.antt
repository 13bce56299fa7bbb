use Rattle.std.proofs.Common.{◌∷◌, []}
use Rattle.part_tests.proofs.chains.check.Goals as goal

pub prev-requires : goal.prev-requires
prev-requires g c = record { present = ([], 0 ∷ [], c.requires) }

pub next-requires : goal.next-requires
next-requires g c = record { present = ([], 0 ∷ [], c.requires) }

pub prev-requires-2 : goal.prev-requires-2
prev-requires-2 g c = record { present = (1 ∷ [], [], c.requires) }

pub next-requires-2 : goal.next-requires-2
next-requires-2 g c = record { present = (1 ∷ [], [], c.requires) }
