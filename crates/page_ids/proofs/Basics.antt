-- What the proofs of several crates stand on: options, ends of lists, pages that are the same.
use Rattle.std.proofs.Common.{◌≡◌, ◌∙◌, ◌&&◌, ◌++◌, ◌∷◌, [], ℕ, Bool, true, false, nat_eq, List, Some, reverse, refl, ap, arith, eq-eqb}
use Rattle.std.specs.Cmp.{IsTotalOrder}
use Rattle.std.proofs.lemmas.Cmp.{on_total, then_total, nat_cmp_total}
use Rattle.std.proofs.lemmas.Bool.Decides.{nat_tests}
use Rattle.std.proofs.lemmas.List.{reverse-append}
use Rattle.page_ids.specs.Same.{page_cmp, same_page}
use Rattle.page_ids.specs.declared.ids.PageId.{PageId}

pub some_same : {X : Type 0} {x y : X} → Some x ≡ Some y → x ≡ y
some_same e = cc

-- the last of a list comes first where it is reversed
pub reverse-push : {X : Type 0} → (xs : List X) (x : X) → reverse (xs ++ x ∷ []) ≡ x ∷ reverse xs
reverse-push xs x = reverse-append xs (x ∷ [])

pub same_self : (p : PageId) → same_page p p ≡ true
same_self p = ap (λ (b : Bool). b && nat_eq p.page p.page) (eq-eqb p.space p.space refl) ∙ eq-eqb p.page p.page refl

both : (a b : Bool) → (a && b) ≡ true → (a ≡ true) × (b ≡ true)
both true b h = (refl, h)
both false b h = absurd (cc)

number_is : (m n : ℕ) → nat_eq m n ≡ true → m ≡ n
number_is m n h = grind (arith, nat_tests)

-- pages that are the same are one
pub one_page : (p q : PageId) → same_page p q ≡ true → p ≡ q
one_page p q h =
    let tests = both (nat_eq p.space q.space) (nat_eq p.page q.page) h in
    let make = λ (s n : ℕ). let id : PageId = record { space = s; page = n } in id in
    ap (λ s. make s p.page) (number_is p.space q.space tests.0) ∙ ap (λ n. make q.space n) (number_is p.page q.page tests.1)

-- pages are ordered by space, then number
pub pages_total : IsTotalOrder page_cmp
pages_total = then_total (on_total (λ p. p.space) nat_cmp_total) (on_total (λ p. p.page) nat_cmp_total)
