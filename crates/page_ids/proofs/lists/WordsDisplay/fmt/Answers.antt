use Rattle.std.proofs.Common.{rules, get_or, take, drop, length, ◌-◌, ◌∷◌, ℕ}
use Rattle.std.proofs.Output.{has_written_append, has_written_of_eq}
use Rattle.page_ids.specs.Spelling.{frame_text}
use Rattle.page_ids.specs.declared.frame_word.Word.{Word}
use Rattle.page_ids.proofs.Listed.{listed_more}
use Rattle.page_ids.proofs.lists.WordsDisplay.fmt.Goals as goal

pub loop-frame-preserved : goal.loop-frame-preserved
loop-frame-preserved g c = λ p.
    let all = c.as_slice.result.now in
    let xs = take (length all - 1) (drop 1 all) in
    let i = c.loop-frame.frame-index in
    let none : ℕ × Word = (0, record { bits = 0 }) in
    has_written_of_eq _ _ _ _ _ (listed_more frame_text xs i none (search rules)) (has_written_append _ _ _ _ (44 ∷ frame_text (get_or xs i none)) _ (c.loop-frame.invariant p) (search rules))
