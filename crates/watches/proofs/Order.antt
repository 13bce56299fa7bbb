-- Each pair has one watch at most, behind every call.
use Rattle.std.proofs.Common.{◌≡◌, ◌∙◌, ◌+◌, ◌<◌, ◌≤◌, ◌&&◌, ℕ, Bool, true, false, not, cond, nat_eq, List, [], ◌∷◌, ◌++◌, length, map, refl, sym, ap, arith}
use Rattle.std.specs.Prelude.{count_by, filter}
use Rattle.std.specs.List.{list_any}
use Rattle.std.proofs.lemmas.Bool.Decides.{nat_tests}
use Rattle.std.proofs.lemmas.List.{length-append, length-map}
use Rattle.std.proofs.lemmas.List.Sums.{sum_by-append, length-filter, count_by-le-length}
use Rattle.page_ids.specs.declared.ids.PageId.{PageId}
use Rattle.page_ids.specs.Same.{same_page}
use Rattle.watches.specs.declared.list.Watched.{Watched}
use Rattle.page_ids.specs.declared.limits.TheConstants.{MOST_WATCHES}
use Rattle.watches.specs.View.{is_of, stands, come, after_arrival, without_watch, IsInOrder}

module _ {X : Type 0} (p : X → Bool) where
  first_counted : (x : X) (xs : List X) → count_by p (x ∷ xs) ≡ cond (p x) 1 0 + count_by p xs
  first_counted x xs = omega (arith, sum_by-append (λ y. cond (p y) 1 0) (x ∷ []) xs)

  none_counted : (xs : List X) → list_any p xs ≡ false → count_by p xs ≡ 0
  none_counted [] e = refl
  none_counted (x ∷ xs) e = cases (λ k. none_counted xs k) (p x) refl
    where
      cases : (list_any p xs ≡ false → count_by p xs ≡ 0) → (b : Bool) → p x ≡ b → count_by p (x ∷ xs) ≡ 0
      cases next true t = let bad : true ≡ false = rw t at e in absurd (cc)
      cases next false t = first_counted x xs ∙ rw t (omega (arith, next (rw t at e)))

  fewer_left : (q : X → Bool) (xs : List X) → count_by p (filter q xs) ≤ count_by p xs
  fewer_left q [] = omega arith
  fewer_left q (x ∷ xs) = cases (fewer_left q xs) (q x) refl
    where
      cases : count_by p (filter q xs) ≤ count_by p xs → (b : Bool) → q x ≡ b → count_by p (filter q (x ∷ xs)) ≤ count_by p (x ∷ xs)
      cases next true t = rw t (omega (arith, next, first_counted x (filter q xs), first_counted x xs))
      cases next false t = rw t (omega (arith, next, first_counted x xs))

both : (a b : Bool) → (a && b) ≡ true → (a ≡ true) × (b ≡ true)
both true b h = (refl, h)
both false b h = absurd (cc)

number_is : (m n : ℕ) → nat_eq m n ≡ true → m ≡ n
number_is m n h = grind (arith, nat_tests)

one_page : (p q : PageId) → same_page p q ≡ true → p ≡ q
one_page p q h =
    let tests = both (nat_eq p.space q.space) (nat_eq p.page q.page) h in
    let make = λ (s n : ℕ). let id : PageId = record { space = s; page = n } in id in
    ap (λ s. make s p.page) (number_is p.space q.space tests.0) ∙ ap (λ n. make q.space n) (number_is p.page q.page tests.1)

-- a watch that is put behind those of other pairs
once_more : (ws : List Watched) (w : Watched) → stands w.caller w.page ws ≡ false → ((caller : ℕ) (page : PageId) → count_by (is_of caller page) ws ≤ 1)
    → (caller : ℕ) (page : PageId) → count_by (is_of caller page) (ws ++ w ∷ []) ≤ 1
once_more ws w away once caller page = cases (is_of caller page w) refl
  where
    cases : (b : Bool) → is_of caller page w ≡ b → count_by (is_of caller page) (ws ++ w ∷ []) ≤ 1
    cases false t = rw (sum_by-append (λ x. cond (is_of caller page x) 1 0) ws (w ∷ []), t) (omega (arith, once caller page))
    cases true t =
        let own = both (nat_eq w.caller caller) (same_page w.page page) t in
        let none : count_by (is_of caller page) ws ≡ 0 =
        ap (λ c. count_by (is_of c page) ws) (sym (number_is w.caller caller own.0)) ∙ ap (λ p. count_by (is_of w.caller p) ws) (sym (one_page w.page page own.1)) ∙ none_counted (is_of w.caller w.page) ws away in
        rw (sum_by-append (λ x. cond (is_of caller page x) 1 0) ws (w ∷ []), t) (omega (arith, none))

pub set_in_order : (caller : ℕ) (page : PageId) (ws : List Watched) → stands caller page ws ≡ false → length ws < MOST_WATCHES → IsInOrder ws
    → IsInOrder (ws ++ record { caller = caller; page = page; occurred = false } ∷ [])
set_in_order caller page ws away room k =
    let w : Watched = record { caller = caller; page = page; occurred = false } in
    record { once = once_more ws w away k.once; few = omega (arith, length-append ws (w ∷ []), room) }

come_counted : (page : PageId) (ws : List Watched) (caller : ℕ) (of : PageId) → count_by (is_of caller of) (map (come page) ws) ≡ count_by (is_of caller of) ws
come_counted page [] caller of = refl
come_counted page (w ∷ ws) caller of =
    let is = is_of caller of in
    first_counted is (come page w) (map (come page) ws) ∙ ap (λ n. cond (is w) 1 0 + n) (come_counted page ws caller of) ∙ sym (first_counted is w ws)

pub arrived_in_order : (page : PageId) (ws : List Watched) → IsInOrder ws → IsInOrder (after_arrival page ws)
arrived_in_order page ws k = record {
  once = λ caller of. omega (arith, come_counted page ws caller of, k.once caller of);
  few = omega (arith, length-map ws (come page), k.few);
}

pub unset_in_order : (caller : ℕ) (page : PageId) (ws : List Watched) → IsInOrder ws → IsInOrder (without_watch caller page ws)
unset_in_order caller page ws k =
    let test = λ (w : Watched). not (is_of caller page w) in
    record {
      once = λ c p. omega (arith, fewer_left (is_of c p) test ws, k.once c p);
      few = omega (arith, length-filter test ws, count_by-le-length test ws, k.few);
    }
