use Rattle.std.proofs.Common.{◌∙◌, ◌++◌, ◌∷◌, [], take, get_or, append_assoc, sym, ap}
use Rattle.page_ids.specs.declared.ids.PageId.{PageId}
use Rattle.dump_load.specs.Text.{id_line, dump_text}
use Rattle.dump_load.proofs.Lines.{text_more}
use Rattle.dump_load.proofs.text.push_ids.Goals as goal

pub loop-id-preserved : goal.loop-id-preserved
loop-id-preserved c =
    let i = c.loop-id.id-index in
    let ids = c.args.ids.now in
    let none : PageId = record { space = 0; page = 0 } in
    let line = id_line (get_or ids i none) in
    let before = c.args.out.now.items in
    let so_far = dump_text (take i ids) in
    c.in_ok-push.ensures.items
    ∙ ap (λ xs. xs ++ 10 ∷ []) (c.in_ok-push_id.ensures.text ∙ ap (λ xs. xs ++ line) c.loop-id.invariant)
    ∙ append_assoc (before ++ so_far) line (10 ∷ [])
    ∙ append_assoc before so_far (line ++ 10 ∷ [])
    ∙ ap (λ xs. before ++ xs) (sym (text_more ids i none c.loop-id-test.true))
