use Rattle.std.proofs.Common.{sym, subst}
use Rattle.std.specs.List.{Contains}
use Rattle.std.specs.List.Sorted.{IsStrictlySortedBy}
use Rattle.std.proofs.lemmas.List.Filters.{dedup_is}
use Rattle.std.proofs.lemmas.List.Kept.{IsStrictlySortedBy-dedup, Contains-dedup, Contains-from_dedup}
use Rattle.std.proofs.lemmas.List.Sorted.{Contains-permutation, IsPermutation-sym}
use Rattle.page_ids.specs.Same.{page_cmp, same_page}
use Rattle.page_ids.proofs.Basics.{pages_total, one_page}
use Rattle.dump_load.proofs.Order.{pages_tie, pages_alike}
use Rattle.dump_load.proofs.loads.to_load.Goals as goal

pub returns : goal.returns
returns c =
    let sorted = c.sort_unstable.new.self.items in
    let given = c.in_ok-loads.ensures.items in
    let left = dedup_is same_page sorted c.dedup.new.self.items c.dedup.ensures.filtered in
    let moved = c.sort_unstable.ensures.permutation in
    record {
      rising = subst (λ xs. IsStrictlySortedBy page_cmp xs) (sym left) (IsStrictlySortedBy-dedup pages_total pages_tie sorted c.sort_unstable.ensures.sorted);
      same = λ p. (
        (λ there. subst (λ xs. Contains xs p) given (Contains-permutation _ _ p (IsPermutation-sym _ _ moved) (Contains-from_dedup same_page sorted p (subst (λ xs. Contains xs p) left there)))),
        (λ there. subst (λ xs. Contains xs p) (sym left) (Contains-dedup pages_alike one_page sorted p (Contains-permutation _ _ p moved (subst (λ xs. Contains xs p) (sym given) there)))),
      );
    }
