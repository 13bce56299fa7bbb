use Rattle.std.proofs.Common.{length}
use Rattle.link_lists.specs.Chains.{list_of}
use Rattle.page_hash.proofs.Follow.{left_from, Passing}
use Rattle.page_hash.proofs.hash.PageHash.find.Given as goal

abbrev pub invariant-loop-at : goal.invariant-loop-at
invariant-loop-at l = Passing l.self-inside.nodes l.cell (length l.self-inside.cells.items) l.self-inside.pages.items l.page l.at

abbrev pub decreases-loop-at : goal.decreases-loop-at
decreases-loop-at l = left_from (list_of l.self-inside.nodes l.cell) l.at
