use Rattle.std.proofs.Common.{◌≡◌, All}
use Rattle.crossbeam_utils.specs.Seq.{cell_view}
use Rattle.redo_log.proofs.Closing.{HasTaken}
use Rattle.redo_log.proofs.turns.gather.Given as goal

abbrev pub invariant-loop-seat : goal.invariant-loop-seat
invariant-loop-seat l = record {
  cell : l.keeper.table_id ≡ l.fn.keeper.table_id;
  same : ((cell_view l.keeper).keeps ≡ (cell_view l.fn.keeper).keeps) × ((cell_view l.keeper).story ≡ (cell_view l.fn.keeper).story);
  logs : All (λ p. p.log ≡ l.fn.cell.table.shared.table_id) l.passes.items;
  taken : HasTaken (cell_view l.fn.keeper) (cell_view l.keeper) l.passes.items l.fn.passes.items;
}

abbrev pub decreases-loop-seat : goal.decreases-loop-seat
decreases-loop-seat l = goal.left-loop-seat l
