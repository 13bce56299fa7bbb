use Rattle.std.proofs.Common.{◌∙◌}
use Rattle.page_hash.proofs.Filed.{read_of, filed_moved, present, absent}
use Rattle.page_hash.proofs.cells.refile.Goals as goal

pub replace-requires-clause-present : goal.replace-requires-clause-present
replace-requires-clause-present c =
    let read = read_of c.args.cells.now.items c.args.page _ _ _ (c.len.ensures ∙ c.args.cells.now.ok.0) c.cell_of-at.ensures.cell c.cell_of-at.ensures.inside c.index_mut-cell.ensures.value in
    present c.args.nodes.now c.args.cells.now.items c.requires.filed.0 c.cell_of-at.result c.args.old c.args.page c.index_mut-cell.result.now read c.requires.filed.2 c.requires.filed.1

pub replace-requires-clause-absent : goal.replace-requires-clause-absent
replace-requires-clause-absent c =
    let read = read_of c.args.cells.now.items c.args.page _ _ _ (c.len.ensures ∙ c.args.cells.now.ok.0) c.cell_of-at.ensures.cell c.cell_of-at.ensures.inside c.index_mut-cell.ensures.value in
    absent c.args.nodes.now c.args.cells.now.items c.requires.filed.0 c.cell_of-at.result c.args.new c.index_mut-cell.result.now read.there c.requires.filed.3 c.requires.filed.1

pub returns-clause-filed : goal.returns-clause-filed
returns-clause-filed c = λ tags filed some none.
    let read = read_of c.args.cells.now.items c.args.page _ _ _ (c.len.ensures ∙ c.args.cells.now.ok.0) c.cell_of-at.ensures.cell c.cell_of-at.ensures.inside c.index_mut-cell.ensures.value in
    filed_moved c.args.nodes.now c.replace.new.nodes c.args.cells.now.items tags c.cell_of-at.result c.args.old c.args.new c.args.page c.index_mut-cell.result.now c.replace.new.self read some none filed c.replace.ensures.pair c.replace.ensures.list c.replace.ensures.others

pub returns-clause-nodes : goal.returns-clause-nodes
returns-clause-nodes c =
    let read = read_of c.args.cells.now.items c.args.page _ _ _ (c.len.ensures ∙ c.args.cells.now.ok.0) c.cell_of-at.ensures.cell c.cell_of-at.ensures.inside c.index_mut-cell.ensures.value in
    let k = c.requires.filed.1 c.cell_of-at.result c.index_mut-cell.result.now read.there in
    (c.replace.ensures.others k.frames k.chain_is).nodes
