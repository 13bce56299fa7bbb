use Rattle.std.proofs.Common.{◌≡◌, ◌≤◌, length, take, drop, arith, ap, rules}
use Rattle.std.proofs.lemmas.Grind.{common_steps}
use Rattle.page_disk.proofs.Taken.{taken}
use Rattle.page_disk.proofs.source_memory.SourceMemorySource.take.Goals as goal

pub returns-clause-bytes : goal.returns-clause-bytes
returns-clause-bytes c =
    let n = c.min-n.result in
    let bytes = c.self.inside.bytes.items in
    let at = c.self.inside.at in
    let copied = c.copy_from_slice.new.self in
    let is : copied ≡ take n (drop at bytes) = search rules in
    let long : length copied ≡ n = grind (arith, common_steps, is) in
    let none : n ≡ 0 → length bytes ≤ at = λ zero_is. search rules in
    record { ok = taken c.args.self.now.left bytes at n copied (drop n c.args.out.now) (ap (λ s. s.left) c.self.view_is) is long none (grind (arith, common_steps)); err = tt; silent = λ untold. absurd (cc) }
