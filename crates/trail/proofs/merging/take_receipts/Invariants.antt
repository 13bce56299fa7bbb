use Rattle.std.proofs.Common.{◌≡◌, ◌≤◌, ◌+◌, ◌++◌, length, vec_len, vec_capacity}
use Rattle.std.specs.List.Sorted.{IsPermutation}
use Rattle.trail.specs.Merging.{told}
use Rattle.trail.proofs.merging.take_receipts.Given as goal

abbrev pub invariant-loop-receipt : goal.invariant-loop-receipt
invariant-loop-receipt l = record {
  kept : IsPermutation (l.fn.room.items ++ told l.fn.account.items) (l.room.items ++ told l.account.items);
  count : vec_len l.room + vec_len l.account ≡ vec_len l.fn.room + vec_len l.fn.account;
  room : vec_capacity l.fn.room ≤ vec_capacity l.room;
}

abbrev pub decreases-loop-receipt : goal.decreases-loop-receipt
decreases-loop-receipt l = length l.account.items
