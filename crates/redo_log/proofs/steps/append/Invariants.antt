use Rattle.redo_mark.specs.Records.{sealed}
use Rattle.redo_log.specs.Story.{piece_at}
use Rattle.redo_log.proofs.steps.append.Given as goal

abbrev pub ghosts-append_piece : goal.ghosts-append_piece
ghosts-append_piece g a = record { piece = piece_at a.start (sealed a.draft.value a.start) }
