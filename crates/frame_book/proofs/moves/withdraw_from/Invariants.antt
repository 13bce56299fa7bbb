use Rattle.std.proofs.Common.{◌≡◌}
use Rattle.page_ids.specs.FrameLists.{FrameLists}
use Rattle.frame_book.specs.Inside.{lists_of}
use Rattle.frame_book.specs.Moves.{CanMove}
use Rattle.frame_book.proofs.Turns.{behind}
use Rattle.frame_book.proofs.moves.withdraw_from.Given as goal

-- those passed stand at the end of the free list, or on the withdraw list
abbrev pub invariant-loop-i : goal.invariant-loop-i
invariant-loop-i l = record {
  turned : ◌≡◌ {A = FrameLists} (lists_of l.free l.withdrawn) (behind l.first l.i (lists_of l.fn.free l.fn.withdrawn));
  still : CanMove l.free l.withdrawn;
  rooms : (l.free.room ≡ l.fn.free.room) × (l.withdrawn.room ≡ l.fn.withdrawn.room);
}
