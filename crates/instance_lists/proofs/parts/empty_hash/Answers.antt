use Rattle.std.proofs.Common.{◌∙◌, List, Option, ap}
use Rattle.page_ids.specs.declared.ids.PageId.{PageId}
use Rattle.page_hash.specs.View as hash
use Rattle.instance_lists.proofs.parts.empty_hash.Goals as goal

pub returns-clause-empty : goal.returns-clause-empty
returns-clause-empty c = λ p. c.in_ok-resize.ensures.ok.homes p ∙ ap (λ (l : List (Option PageId)). hash.home l p) c.in_ok-pages.ensures
