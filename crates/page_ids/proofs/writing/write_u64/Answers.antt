use Rattle.std.proofs.Common.{rules, ◌≡◌, ap, ◌∙◌, arith}
use Rattle.std.specs.Int.{to_be_bytes, w64}
use Rattle.page_ids.specs.Layout.{u64_at}
use Rattle.page_ids.proofs.Overwritten.{over, number_8}
use Rattle.page_ids.proofs.writing.write_u64.Goals as goal

pub returns-clause-number : goal.returns-clause-number
returns-clause-number c =
    let is : c.overwrite.new.bytes ≡ over c.args.at (to_be_bytes w64 c.args.number) c.args.out.now = search rules in
    ap (λ bytes. u64_at bytes c.args.at) is ∙ number_8 c.args.at c.args.number c.args.out.now c.requires (omega (arith, c.ranges.number))
