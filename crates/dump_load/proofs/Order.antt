-- Ids in their order.
use Rattle.std.proofs.Common.{◌≡◌, ◌∙◌, ◌&&◌, nat_eq, sym, ap}
use Rattle.std.specs.Cmp.{IsEquivalence, tied_then, unsigned_tied}
use Rattle.std.specs.Ordering.{eq_by_cmp, nat_cmp, is_eq}
use Rattle.std.proofs.lemmas.Cmp.{eq_by_cmp_equiv}
use Rattle.page_ids.proofs.Basics.{pages_total}
use Rattle.page_ids.specs.Same.{page_cmp, same_page}
use Rattle.page_ids.specs.declared.ids.PageId.{PageId}

-- pages tie just where they are the same
pub pages_tie : (p q : PageId) → same_page p q ≡ eq_by_cmp page_cmp p q
pages_tie p q =
    ap (λ b. b && nat_eq p.page q.page) (sym (unsigned_tied p.space q.space)) ∙ ap (λ b. is_eq (nat_cmp p.space q.space) && b) (sym (unsigned_tied p.page q.page))
    ∙ tied_then (nat_cmp p.space q.space) (nat_cmp p.page q.page)

pub pages_alike : IsEquivalence same_page
pages_alike =
    let equal = eq_by_cmp_equiv pages_total in
    record {
      refl = λ p. pages_tie p p ∙ equal.refl p;
      symm = λ p q. pages_tie p q ∙ equal.symm p q ∙ sym (pages_tie q p);
      congr = λ p q r e. pages_tie p r ∙ equal.congr p q r (sym (pages_tie p q) ∙ e) ∙ sym (pages_tie q r);
    }
