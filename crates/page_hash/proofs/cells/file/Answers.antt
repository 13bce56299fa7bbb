use Rattle.std.proofs.Common.{◌∙◌}
use Rattle.page_hash.proofs.Filed.{read_of, filed_with, absent}
use Rattle.page_hash.proofs.cells.file.Goals as goal

pub push_front-requires-clause-absent : goal.push_front-requires-clause-absent
push_front-requires-clause-absent c =
    let read = read_of c.args.cells.now.items c.args.page _ _ _ (c.len.ensures ∙ c.args.cells.now.ok.0) c.cell_of-at.ensures.cell c.cell_of-at.ensures.inside c.index_mut-cell.ensures.value in
    absent c.args.nodes.now c.args.cells.now.items c.requires.filed.0 c.cell_of-at.result c.args.frame c.index_mut-cell.result.now read.there c.requires.filed.2 c.requires.filed.1

pub returns-clause-filed : goal.returns-clause-filed
returns-clause-filed c = λ tags filed none.
    let read = read_of c.args.cells.now.items c.args.page _ _ _ (c.len.ensures ∙ c.args.cells.now.ok.0) c.cell_of-at.ensures.cell c.cell_of-at.ensures.inside c.index_mut-cell.ensures.value in
    filed_with c.args.nodes.now c.push_front.new.nodes c.args.cells.now.items tags c.cell_of-at.result c.args.frame c.args.page c.index_mut-cell.result.now c.push_front.new.self read none filed c.push_front.ensures.pair c.push_front.ensures.list c.push_front.ensures.others

pub returns-clause-nodes : goal.returns-clause-nodes
returns-clause-nodes c =
    let read = read_of c.args.cells.now.items c.args.page _ _ _ (c.len.ensures ∙ c.args.cells.now.ok.0) c.cell_of-at.ensures.cell c.cell_of-at.ensures.inside c.index_mut-cell.ensures.value in
    let k = c.requires.filed.1 c.cell_of-at.result c.index_mut-cell.result.now read.there in
    (c.push_front.ensures.others k.frames k.chain_is).nodes
