use Rattle.std.proofs.Common.{sym, subst, arith}
use Rattle.page_hash.proofs.Filed.{AreEmpty, empty_more, empty_filed}
use Rattle.page_hash.proofs.cells.empty_cells.Goals as goal

pub loop-preserved : goal.loop-preserved
loop-preserved c =
    let k = c.loop.invariant in
    let e = c.push_reserved.ensures in
    record {
      made = omega (arith, e.len, k.made);
      room = omega (arith, e.capacity, k.room);
      empty = subst (λ cells. AreEmpty cells) (sym e.items) (empty_more c.loop.cells.items c.new.result k.empty c.new.ensures.pair c.new.ensures.empty);
    }

pub returns-clause-empty : goal.returns-clause-empty
returns-clause-empty c = λ g some. empty_filed g c.loop.cells.items c.loop.invariant.empty some
