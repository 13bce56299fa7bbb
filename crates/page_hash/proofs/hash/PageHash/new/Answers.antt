use Rattle.std.proofs.Common.{◌≡◌, ◌∙◌, ℕ, length, None, sym, ap, arith}
use Rattle.std.proofs.lemmas.List.{get_or_past}
use Rattle.std.proofs.lemmas.Option.{none-some}
use Rattle.link_lists.specs.Grid.{Grid}
use Rattle.page_hash.specs.View.{page_in}
use Rattle.page_hash.proofs.Filed.{filed_as}
use Rattle.page_hash.proofs.hash.PageHash.new.Goals as goal

pub invariant_of-result : goal.invariant_of-result
invariant_of-result c =
    let cells = c.in_ok-cells.cells in
    let pages = c.new-2.result.items in
    let none : length pages ≡ 0 = ap length c.new-2.ensures.items in
    let tag : (f : ℕ) → page_in pages f ≡ None = λ f. get_or_past pages f None (omega (arith, none)) in
    let e = c.new.ensures in
    record {
      some = omega (arith, cells.ok.0, c.in_ok-cells.ensures.count, c.requires);
      fits = omega (arith, none);
      nodes = ap (λ (g : Grid). g.nodes) e ∙ sym none;
      apart = λ f g p a b. absurd (none-some p (sym (tag f) ∙ a));
      filed = filed_as c.new.result cells.items (λ f. None) (page_in pages) (λ f. sym (tag f)) (c.in_ok-cells.ensures.empty c.new.result (omega (arith, ap (λ (g : Grid). g.pairs) e)));
    }
