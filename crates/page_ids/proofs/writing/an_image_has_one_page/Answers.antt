use Rattle.page_ids.proofs.Pages.{one_page_of}
use Rattle.page_ids.proofs.writing.an_image_has_one_page.Goals as goal

pub returns : goal.returns
returns c = one_page_of
