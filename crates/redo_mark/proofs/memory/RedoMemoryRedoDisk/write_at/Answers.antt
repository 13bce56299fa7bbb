use Rattle.std.proofs.Common.{rules, arith, ◌≡◌, length, take}
use Rattle.std.proofs.lemmas.List.{length-take}
use Rattle.redo_mark.specs.Device.{put_at}
use Rattle.redo_mark.proofs.Telling.{torn_by_part, torn_same}
use Rattle.redo_mark.proofs.memory.RedoMemoryRedoDisk.write_at.Goals as goal

pub returns-then-is_err-clause-torn : goal.returns-then-is_err-clause-torn
returns-then-is_err-clause-torn c =
    let same : c.put.new.self.written.items ≡ c.args.self.now.written.items = search rules in
    torn_same c.args.at (length c.args.piece.now) _ _ c.requires.within same (search rules)

pub returns-then-listed-clause-torn : goal.returns-then-listed-clause-torn
returns-then-listed-clause-torn c =
    let part = take c.put_len-most.result c.args.piece.now in
    let len = length-take c.put_len-most.result c.args.piece.now in
    let put : c.put.new.self.written.items ≡ put_at c.args.at part c.args.self.now.written.items = search rules in
    torn_by_part c.args.at (length c.args.piece.now) part _ _ c.requires.within (omega (arith, len)) put (search rules)
