use Rattle.std.proofs.Common.{◌≡◌, ◌≤◌}
use Rattle.std.specs.VecDeque.{deque_len, deque_capacity}
use Rattle.page_ids.specs.Chunks.{rising}
use Rattle.instance_lists.proofs.parts.free_frames.Given as goal

abbrev pub invariant-loop-frame : goal.invariant-loop-frame
invariant-loop-frame l = record {
  items : l.free.items ≡ rising 0 l.frame;
  len : deque_len l.free ≡ l.frame;
  room : l.frames ≤ deque_capacity l.free;
}
