use Rattle.std.proofs.Common.{◌∙◌}
use Rattle.page_hash.proofs.Filed.{read_of, filed_without, present}
use Rattle.page_hash.proofs.cells.unfile.Goals as goal

pub unlink-requires : goal.unlink-requires
unlink-requires c =
    let read = read_of c.args.cells.now.items c.args.page _ _ _ (c.len.ensures ∙ c.args.cells.now.ok.0) c.cell_of-at.ensures.cell c.cell_of-at.ensures.inside c.index_mut-cell.ensures.value in
    record { present = present c.args.nodes.now c.args.cells.now.items c.requires.filed.0 c.cell_of-at.result c.args.frame c.args.page c.index_mut-cell.result.now read c.requires.filed.2 c.requires.filed.1 }

pub returns-clause-filed : goal.returns-clause-filed
returns-clause-filed c = λ tags filed some.
    let read = read_of c.args.cells.now.items c.args.page _ _ _ (c.len.ensures ∙ c.args.cells.now.ok.0) c.cell_of-at.ensures.cell c.cell_of-at.ensures.inside c.index_mut-cell.ensures.value in
    filed_without c.args.nodes.now c.unlink.new.nodes c.args.cells.now.items tags c.cell_of-at.result c.args.frame c.args.page c.index_mut-cell.result.now c.unlink.new.self read some filed c.unlink.ensures.pair c.unlink.ensures.list c.unlink.ensures.others

pub returns-clause-nodes : goal.returns-clause-nodes
returns-clause-nodes c =
    let read = read_of c.args.cells.now.items c.args.page _ _ _ (c.len.ensures ∙ c.args.cells.now.ok.0) c.cell_of-at.ensures.cell c.cell_of-at.ensures.inside c.index_mut-cell.ensures.value in
    let k = c.requires.filed.1 c.cell_of-at.result c.index_mut-cell.result.now read.there in
    (c.unlink.ensures.others k.frames k.chain_is).nodes
