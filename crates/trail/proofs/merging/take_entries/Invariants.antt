use Rattle.std.proofs.Common.{◌≡◌, ◌≤◌, ◌+◌, ◌++◌, length, vec_len, vec_capacity}
use Rattle.std.specs.List.Sorted.{IsPermutation}
use Rattle.trail.specs.Merging.{entries_told}
use Rattle.trail.proofs.merging.take_entries.Given as goal

abbrev pub invariant-loop-entry : goal.invariant-loop-entry
invariant-loop-entry l = record {
  kept : IsPermutation (l.fn.room.items ++ entries_told l.fn.history.items) (l.room.items ++ entries_told l.history.items);
  count : vec_len l.room + vec_len l.history ≡ vec_len l.fn.room + vec_len l.fn.history;
  room : vec_capacity l.fn.room ≤ vec_capacity l.room;
}

abbrev pub decreases-loop-entry : goal.decreases-loop-entry
decreases-loop-entry l = length l.history.items
