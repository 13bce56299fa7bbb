use Rattle.page_ids.proofs.Packed.{fields_are, whole_is}
use Rattle.page_ids.proofs.frame_word.a_word_is_its_fields.Goals as goal

pub returns : goal.returns
returns c = record { fields = fields_are; whole = whole_is }
