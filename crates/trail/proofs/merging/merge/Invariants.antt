use Rattle.std.proofs.Common.{◌≤◌, ◌+◌, ◌++◌, length, vec_len, vec_capacity}
use Rattle.std.specs.List.Sorted.{IsPermutation}
use Rattle.trail.specs.Merging.{entries_told, receipts_in, together, told}
use Rattle.trail.proofs.merging.merge.Given as goal

abbrev pub invariant-loop-account : goal.invariant-loop-account
invariant-loop-account l = record {
  kept : IsPermutation (entries_told l.fn.history.items ++ told (together l.fn.accounts.items)) (l.room.items ++ told (together l.accounts.items));
  room : vec_len l.room + receipts_in l.accounts.items ≤ vec_capacity l.room;
}

abbrev pub decreases-loop-account : goal.decreases-loop-account
decreases-loop-account l = length l.accounts.items
