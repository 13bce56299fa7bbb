use Rattle.std.proofs.Common.{◌≡◌, ◌≤◌, vec_len, vec_capacity}
use Rattle.page_hash.proofs.Filed.{AreEmpty}
use Rattle.page_hash.proofs.cells.empty_cells.Given as goal

-- so many cells are there, and each is empty
abbrev pub invariant-loop : goal.invariant-loop
invariant-loop l = record {
  made : vec_len l.cells ≡ l.counter;
  room : l.count ≤ vec_capacity l.cells;
  empty : AreEmpty l.cells.items;
}
