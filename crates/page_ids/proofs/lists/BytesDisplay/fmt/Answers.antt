use Rattle.std.proofs.Common.{rules, get_or, arith}
use Rattle.std.proofs.Output.{has_written_append, has_written_of_eq}
use Rattle.page_ids.proofs.Hex.{hex_of, hex_more}
use Rattle.page_ids.proofs.lists.BytesDisplay.fmt.Goals as goal

pub loop-byte-preserved : goal.loop-byte-preserved
loop-byte-preserved g c = λ p.
    let xs = c.as_slice-bytes.result.now in
    let i = c.loop-byte.byte-index in
    has_written_of_eq _ _ _ _ _ (hex_more xs i (omega arith) (omega (arith, c.type_inv.bytes i))) (has_written_append _ _ _ _ (hex_of (get_or xs i 0)) _ (c.loop-byte.invariant p) (search rules))
