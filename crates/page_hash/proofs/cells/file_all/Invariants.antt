use Rattle.std.proofs.Common.{◌≡◌, take, vec_len}
use Rattle.page_hash.specs.View.{page_in}
use Rattle.page_hash.specs.Cells.{AreFiled}
use Rattle.page_hash.proofs.cells.file_all.Given as goal

-- the frames so far stand in their cells
abbrev pub invariant-loop-i : goal.invariant-loop-i
invariant-loop-i l = record {
  filed : AreFiled l.nodes l.cells.items (page_in (take l.i l.pages));
  cells : vec_len l.cells ≡ vec_len l.fn.cells;
  nodes : l.nodes.nodes ≡ l.fn.nodes.nodes;
}
