use Rattle.std.proofs.Common.{rules, get_or, take, drop, length, ◌-◌, ◌∷◌}
use Rattle.std.proofs.Output.{has_written_append, has_written_of_eq}
use Rattle.page_ids.specs.Spelling.{page_text}
use Rattle.page_ids.specs.declared.ids.PageId.{PageId}
use Rattle.page_ids.proofs.Listed.{listed_more}
use Rattle.page_ids.proofs.lists.IdsDisplay.fmt.Goals as goal

pub loop-id-preserved : goal.loop-id-preserved
loop-id-preserved g c = λ p.
    let all = c.as_slice.result.now in
    let xs = take (length all - 1) (drop 1 all) in
    let i = c.loop-id.id-index in
    let none : PageId = record { space = 0; page = 0 } in
    has_written_of_eq _ _ _ _ _ (listed_more page_text xs i none (search rules)) (has_written_append _ _ _ _ (44 ∷ page_text (get_or xs i none)) _ (c.loop-id.invariant p) (search rules))
