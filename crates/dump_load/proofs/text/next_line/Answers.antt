use Rattle.std.proofs.Common.{◌≡◌, ◌∙◌, ◌-◌, ◌++◌, ◌∷◌, [], false, length, take, drop, sym, ap, arith}
use Rattle.std.proofs.Math.Seq.{take-nil}
use Rattle.std.proofs.lemmas.List.{drop_all}
use Rattle.std.specs.Prelude.{◌==◌}
use Rattle.std.proofs.lemmas.List.Elements.{recursion_from_All}
use Rattle.page_ids.proofs.Cuts.{cut_is, cut_lacks, uncut_lacks}
use Rattle.dump_load.specs.Text.{ended}
use Rattle.dump_load.proofs.Lines.{ended_at, ended_last}
use Rattle.dump_load.proofs.text.next_line.Goals as goal

pub returns-in-Some-clause-lines : goal.returns-in-Some-clause-lines
returns-in-Some-clause-lines c = ap ended (cut_is 10 c.args.text.now c.in-Some.line.now c.in-Some.others.now c.in-Some.ensures) ∙ ended_at c.in-Some.line.now c.in-Some.others.now

pub returns-in-Some-clause-whole : goal.returns-in-Some-clause-whole
returns-in-Some-clause-whole c = recursion_from_All (λ b. (b == 10) ≡ false) c.in-Some.line.now (cut_lacks 10 c.args.text.now c.in-Some.line.now c.in-Some.others.now c.in-Some.ensures)

pub returns-in-None-clause-lines : goal.returns-in-None-clause-lines
returns-in-None-clause-lines c =
    let text = c.args.text.now in
    let n = length text in
    let none : take (n - n) (drop n text) ≡ [] = ap (λ xs. take (n - n) xs) (drop_all n text (omega arith)) ∙ take-nil (n - n) in
    ended_last text c.requires.some (recursion_from_All (λ b. (b == 10) ≡ false) text (uncut_lacks 10 text c.in-None.ensures)) ∙ sym (ap (λ xs. text ++ 10 ∷ ended xs) none)

pub returns-in-None-clause-whole : goal.returns-in-None-clause-whole
returns-in-None-clause-whole c = recursion_from_All (λ b. (b == 10) ≡ false) c.args.text.now (uncut_lacks 10 c.args.text.now c.in-None.ensures)
