use Rattle.std.proofs.Common.{◌≡◌, ◌++◌}
use Rattle.link_lists.specs.IndexLists.{IndexList}
use Rattle.page_ids.specs.Chunks.{rising}
use Rattle.frame_book.proofs.moves.append_rising.Given as goal

abbrev pub invariant-loop-i : goal.invariant-loop-i
invariant-loop-i l = ◌≡◌ {A = IndexList} l.list (record l.fn.list { items = l.fn.list.items ++ rising l.first l.i })
