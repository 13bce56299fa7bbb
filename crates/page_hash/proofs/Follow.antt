-- A chain that is followed from its head: what is left of it gets shorter at each step.
use Rattle.std.proofs.Common.{◌≡◌, ◌≢◌, ◌∙◌, ◌+◌, ◌<◌, ◌≤◌, ◌==◌, ℕ, cond, List, [], ◌∷◌, ◌++◌, inl, inr, length, Option, None, Some, append_assoc, refl, sym, ap, subst, arith}
use Rattle.std.proofs.lemmas.Bool.{cases_eq, ne_eqb, eq-eqb}
use Rattle.std.proofs.lemmas.Option.{none-some}
use Rattle.link_lists.specs.Grid.{times}
use Rattle.link_lists.specs.Grid.{Grid}
use Rattle.link_lists.specs.Chains.{Ends, IsChain, first, list_of}
use Rattle.page_ids.specs.declared.ids.PageId.{PageId}
use Rattle.page_hash.specs.Cells.{cell_of, falls_into, IsCell}
use Rattle.page_hash.specs.View.{page_in}
use Rattle.link_lists.proofs.Times.{times-append, times_at, times_past}
use Rattle.page_hash.proofs.Filed.{Counts, own_cell, stands}

-- how many stand from this one on
abbrev pub from_on : List ℕ → ℕ → ℕ
from_on [] x = 0
from_on (y ∷ ys) x = cond (y == x) (1 + length ys) (from_on ys x)

abbrev pub left_from : List ℕ → Option ℕ → ℕ
left_from xs None = 0
left_from xs (Some x) = from_on xs x

from_there : (front back : List ℕ) (x : ℕ) → times x front ≡ 0 → from_on (front ++ x ∷ back) x ≡ 1 + length back
from_there [] back x none = ap (λ b. cond b (1 + length back) (from_on back x)) (eq-eqb x x refl)
from_there (y ∷ ys) back x none = elim (cases_eq y x) [
  | inl e ↦ absurd (omega (arith, none, times_at y ys, ap (λ i. times i (y ∷ ys)) e))
  | inr ne ↦
      ap (λ b. cond b (1 + length (ys ++ x ∷ back)) (from_on (ys ++ x ∷ back) x)) (ne_eqb y x ne)
      ∙ from_there ys back x (omega (arith, none, times_past x y ys ne))
]

-- one further on
pub less_left : (front back : List ℕ) (x : ℕ) → ((y : ℕ) → times y (front ++ x ∷ back) ≤ 1) → left_from (front ++ x ∷ back) (first back) < left_from (front ++ x ∷ back) (Some x)
less_left front back x once = cases back refl
  where
    own : from_on (front ++ x ∷ back) x ≡ 1 + length back
    own = from_there front back x (omega (arith, once x, times-append x front (x ∷ back), times_at x back))

    cases : (ys : List ℕ) → back ≡ ys → left_from (front ++ x ∷ back) (first back) < left_from (front ++ x ∷ back) (Some x)
    cases [] e = omega (arith, own, ap (λ zs. left_from (front ++ x ∷ back) (first zs)) e)
    cases (y ∷ ys) e =
        let whole : front ++ x ∷ back ≡ (front ++ x ∷ []) ++ y ∷ ys = ap (λ zs. front ++ x ∷ zs) e ∙ sym (append_assoc front (x ∷ []) (y ∷ ys)) in
        let seen = once y in
        let none : times y (front ++ x ∷ []) ≡ 0 = omega (arith, seen, ap (times y) whole, times-append y (front ++ x ∷ []) (y ∷ ys), times_at y ys) in
        let next : left_from (front ++ x ∷ back) (first back) ≡ 1 + length ys =
        ap (λ zs. left_from (front ++ x ∷ back) (first zs)) e ∙ ap (λ zs. from_on zs y) whole ∙ from_there (front ++ x ∷ []) ys y none in
        omega (arith, own, next, ap length e)

pub first_some : (xs : List ℕ) (x : ℕ) → first xs ≡ Some x → (ys : List ℕ) × (xs ≡ x ∷ ys)
first_some [] x e = absurd (none-some x e)
first_some (y ∷ ys) x e = let same : y ≡ x = cc in (ys, ap (λ i. i ∷ ys) same)

pub first_none : (xs : List ℕ) → first xs ≡ None → xs ≡ []
first_none [] e = refl
first_none (y ∷ ys) e = absurd (none-some y (sym e))

-- the frames of the cell: those before `at` don't have the page
pub record Passing (g : Grid) (chain : Ends) (cells : ℕ) (pages : List (Option PageId)) (page : PageId) (at : Option ℕ) : Type 0 where
  pub front : List ℕ
  pub back : List ℕ
  pub chain_is : IsChain g chain (front ++ back)
  pub counted : Counts cells (cell_of cells page) (page_in pages) (front ++ back)
  pub at_is : at ≡ first back
  pub passed : (f : ℕ) → 1 ≤ times f front → page_in pages f ≢ Some page

pub passing_start : (g : Grid) (chain : Ends) (n : ℕ) (pages : List (Option PageId)) (page : PageId) (at : Option ℕ) → IsCell g chain (page_in pages) n (cell_of n page)
    → ((h : Grid) (xs : List ℕ) → IsChain h chain xs → at ≡ first xs) → Passing g chain n pages page at
passing_start g chain n pages page at k front = record {
  front = [];
  back = k.frames;
  chain_is = k.chain_is;
  counted = k.counted;
  at_is = front g k.frames k.chain_is;
  passed = λ f there. absurd (omega (arith, there));
}

module _ (g : Grid) (chain : Ends) (n : ℕ) (pages : List (Option PageId)) (page : PageId) (at : Option ℕ) (p : Passing g chain n pages page at) where
  pub ahead : (frame : ℕ) → at ≡ Some frame → (ys : List ℕ) × (p.back ≡ frame ∷ ys)
  ahead frame e = first_some p.back frame (sym p.at_is ∙ e)

  whole : (frame : ℕ) (e : at ≡ Some frame) → p.front ++ p.back ≡ p.front ++ frame ∷ (ahead frame e).0
  whole frame e = ap (λ ys. p.front ++ ys) (ahead frame e).1

  pub split_is : (frame : ℕ) (e : at ≡ Some frame) → IsChain g chain (p.front ++ frame ∷ (ahead frame e).0)
  split_is frame e = subst (λ xs. IsChain g chain xs) (whole frame e) p.chain_is

  pub met : (frame : ℕ) → at ≡ Some frame → 1 ≤ times frame (p.front ++ p.back)
  met frame e = omega (arith, ap (times frame) (whole frame e), times-append frame p.front (frame ∷ (ahead frame e).0), times_at frame (ahead frame e).0)

  pub passing_next : (frame : ℕ) (next : Option ℕ) → at ≡ Some frame → page_in pages frame ≢ Some page
      → ((front back : List ℕ) → IsChain g chain (front ++ frame ∷ back) → next ≡ first back) → Passing g chain n pages page next
  passing_next frame next e away to =
      let ys = (ahead frame e).0 in
      let again : p.front ++ p.back ≡ (p.front ++ frame ∷ []) ++ ys = whole frame e ∙ sym (append_assoc p.front (frame ∷ []) ys) in
      record {
        front = p.front ++ frame ∷ [];
        back = ys;
        chain_is = subst (λ xs. IsChain g chain xs) again p.chain_is;
        counted = subst (λ xs. Counts n (cell_of n page) (page_in pages) xs) again p.counted;
        at_is = to p.front ys (split_is frame e);
        passed = λ f there. elim (cases_eq frame f) [
          | inl own ↦ subst (λ i. page_in pages i ≢ Some page) own away
          | inr ne ↦ p.passed f (omega (arith, there, times-append f p.front (frame ∷ []), times_past f frame [] ne))
        ];
      }

  pub shrinks : (frame : ℕ) (next : Option ℕ) → at ≡ Some frame → ((xs : List ℕ) → IsChain g chain xs → list_of g chain ≡ xs)
      → ((front back : List ℕ) → IsChain g chain (front ++ frame ∷ back) → next ≡ first back) → left_from (list_of g chain) next < left_from (list_of g chain) at
  shrinks frame next e found to =
      let ys = (ahead frame e).0 in
      let k = split_is frame e in
      let less = less_left p.front ys frame k.once in
      omega (arith, less, ap (λ xs. left_from xs next) (found _ k), ap (λ xs. left_from xs at) (found _ k), ap (λ o. left_from (p.front ++ frame ∷ ys) o) (to p.front ys k), ap (λ o. left_from (p.front ++ frame ∷ ys) o) e)

  -- at the end no frame has the page
  pub none_left : at ≡ None → (f : ℕ) → page_in pages f ≡ Some page → ⊥
  none_left e f there =
      let done = first_none p.back (sym p.at_is ∙ e) in
      let one = stands n (cell_of n page) (page_in pages) (p.front ++ p.back) f p.counted (ap (falls_into n (cell_of n page)) there ∙ own_cell n page (cell_of n page) refl) in
      p.passed f (omega (arith, one, times-append f p.front p.back, ap (times f) done)) there
