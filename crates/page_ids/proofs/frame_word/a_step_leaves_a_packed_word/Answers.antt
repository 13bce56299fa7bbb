use Rattle.page_ids.proofs.Packed.{stays_packed}
use Rattle.page_ids.proofs.frame_word.a_step_leaves_a_packed_word.Goals as goal

pub returns : goal.returns
returns c = stays_packed
