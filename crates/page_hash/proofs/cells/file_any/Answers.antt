use Rattle.std.proofs.Common.{None, sym, subst}
use Rattle.page_hash.specs.Cells.{AreFiled, with_page}
use Rattle.page_hash.proofs.Filed.{page_none, filed_as}
use Rattle.page_hash.proofs.cells.file_any.Goals as goal

pub returns-in_default-clause-filed : goal.returns-in_default-clause-filed
returns-in_default-clause-filed c = λ at filed none.
    subst (λ page. AreFiled c.args.nodes.now c.args.cells.now.items (with_page c.args.frame page at)) (sym c.in_default.is)
    (filed_as c.args.nodes.now c.args.cells.now.items at (with_page c.args.frame None at) (page_none c.args.frame at none) filed)

pub returns-clause-filed : goal.returns-clause-filed
returns-clause-filed c = λ at filed none.
    subst (λ page. AreFiled c.file.new.nodes c.file.new.cells.items (with_page c.args.frame page at)) (sym c.in-Some.is) (c.file.ensures.filed at filed none)
