use Rattle.std.proofs.Common.{◌≡◌}
use Rattle.page_ids.specs.FrameLists.{FrameLists}
use Rattle.frame_book.specs.Inside.{lists_of}
use Rattle.frame_book.specs.Moves.{CanMove}
use Rattle.frame_book.proofs.Turns.{freed}
use Rattle.frame_book.proofs.moves.put_back.Given as goal

abbrev pub invariant-loop-i : goal.invariant-loop-i
invariant-loop-i l = record {
  freed_so : ◌≡◌ {A = FrameLists} (lists_of l.free l.withdrawn) (freed l.i (lists_of l.fn.free l.fn.withdrawn));
  still : CanMove l.withdrawn l.free;
  rooms : (l.free.room ≡ l.fn.free.room) × (l.withdrawn.room ≡ l.fn.withdrawn.room);
}
