use Rattle.std.proofs.Common.{◌≡◌, ◌<◌, ◌+◌, ◌∷◌, [], length, rules, arith, sym, ap, ◌∙◌, length-append, subst}
use Rattle.crossbeam_utils.specs.Seq.{cell_view}
use Rattle.crossbeam_utils.specs.Register.{Turns}
use Rattle.redo_mark.specs.Records.{sealed}
use Rattle.redo_log.specs.declared.view.Piece.{Piece}
use Rattle.redo_log.specs.Story.{piece_at}
use Rattle.redo_log.specs.Marks.{Kept, AppendsPiece}
use Rattle.redo_log.proofs.Keeps.{appends}
use Rattle.redo_log.proofs.steps.append_piece.Goals as goal

pub swap_as-requires : goal.swap_as-requires
swap_as-requires g c =
    let p = piece_at c.args.start (sealed c.args.draft.value c.args.start) in
    let len : length (sealed c.args.draft.value c.args.start) ≡ length c.args.draft.value + 8 = length-append c.args.draft.value _ in
    let long : 0 < length p.bytes = omega (arith, len) in
    let by = c.args.seat.now.id in
    let v = cell_view c.args.seat.now in (
      search rules,
      (
        search rules,
        (
          search rules,
          subst (λ (q : Piece). Turns Kept by v (λ _. c.args.words) (AppendsPiece q)) (sym c.requires.piece)
              (appends by v p c.args.words c.requires.keeps c.requires.start c.requires.words long c.requires.sound c.requires.share),
        ),
      ),
    )
