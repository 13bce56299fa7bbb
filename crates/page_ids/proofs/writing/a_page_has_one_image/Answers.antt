use Rattle.page_ids.proofs.Pages.{one_content}
use Rattle.page_ids.proofs.writing.a_page_has_one_image.Goals as goal

pub returns : goal.returns
returns c = λ p bytes a b of_a of_b. one_content bytes a b of_a.content_is of_b.content_is
