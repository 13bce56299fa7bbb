use Rattle.std.proofs.Common.{◌∙◌, ◌+◌, None, take, subst, arith}
use Rattle.std.proofs.lemmas.List.{take_all, length-take, get_or_past}
use Rattle.page_hash.specs.Cells.{AreFiled, with_page}
use Rattle.page_hash.specs.View.{page_in}
use Rattle.page_hash.proofs.Filed.{filed_as}
use Rattle.page_hash.proofs.Homes.{tags_next}
use Rattle.page_hash.proofs.cells.file_all.Goals as goal

pub file_any-requires-clause-filed : goal.file_any-requires-clause-filed
file_any-requires-clause-filed c =
    let i = c.loop-i.i in
    let pages = c.args.pages.now in
    (page_in (take i pages), c.loop-i.invariant.filed, get_or_past (take i pages) i None (omega (arith, length-take i pages)))

pub loop-i-preserved : goal.loop-i-preserved
loop-i-preserved c =
    let i = c.loop-i.i in
    let pages = c.args.pages.now in
    let e = c.file_any.ensures in
    let front = page_in (take i pages) in
    record {
      filed = filed_as c.file_any.new.nodes c.file_any.new.cells.items (with_page i (page_in pages i) front) (page_in (take (i + 1) pages)) (tags_next pages i c.loop-i-test.true)
          (e.filed front c.loop-i.invariant.filed (get_or_past (take i pages) i None (omega (arith, length-take i pages))));
      cells = e.cells ∙ c.loop-i.invariant.cells;
      nodes = e.nodes ∙ c.loop-i.invariant.nodes;
    }

pub returns-clause-filed : goal.returns-clause-filed
returns-clause-filed c =
    subst (λ pages. AreFiled c.loop-i.nodes c.loop-i.cells.items (page_in pages)) (take_all c.loop-i.i c.args.pages.now c.loop-i-test.false) c.loop-i.invariant.filed
