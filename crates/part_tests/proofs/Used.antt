-- Which frames were put in, behind each call.
use Rattle.std.proofs.Common.{◌≡◌, ◌∙◌, ◌==◌, ◌||◌, ℕ, Bool, true, false, cond, List, [], ◌∷◌, ◌++◌, Option, None, Some, refl, sym, ap, arith}
use Rattle.std.specs.List.{list_any}
use Rattle.std.proofs.lemmas.Bool.{eq-eqb}
use Rattle.std.proofs.lemmas.Option.{none-some}
use Rattle.std.proofs.lemmas.List.Folds.{list_any-append}
use Rattle.page_ids.specs.declared.ids.PageId.{PageId}
use Rattle.page_ids.specs.Same.{same_page}
use Rattle.page_hash.specs.View.{home, IsUnused, IsRehomed, IsRoomChanged}
use Rattle.part_tests.specs.Used.{AreUsed}

pub unused : (pages : List (Option PageId)) (used : List ℕ) (f : ℕ) → AreUsed pages used → list_any (λ u. u == f) used ≡ false → IsUnused pages f
unused pages used f k away p e = let bad : true ≡ false = sym (k p f e) ∙ away in absurd (cc)

or_right : (a : Bool) → (a || true) ≡ true
or_right true = refl
or_right false = refl

pub used_more : (old new : List (Option PageId)) (used : List ℕ) (page : PageId) (frame : ℕ) → AreUsed old used → IsRehomed old new page (Some frame) → AreUsed new (used ++ frame ∷ [])
used_more old new used page frame k r p f e = cases (same_page p page) refl
  where
    cases : (b : Bool) → same_page p page ≡ b → list_any (λ u. u == f) (used ++ frame ∷ []) ≡ true
    cases true t =
        let here : Some frame ≡ Some f = sym (r.homes p ∙ ap (λ b. cond b (Some frame) (home old p)) t) ∙ e in
        let same : frame ≡ f = cc in
        list_any-append (λ u. u == f) used (frame ∷ []) ∙ ap (λ b. list_any (λ u. u == f) used || (b || false)) (eq-eqb frame f same) ∙ or_right (list_any (λ u. u == f) used)
    cases false t =
        let there : home old p ≡ Some f = sym (r.homes p ∙ ap (λ b. cond b (Some frame) (home old p)) t) ∙ e in
        list_any-append (λ u. u == f) used (frame ∷ []) ∙ ap (λ b. b || list_any (λ u. u == f) (frame ∷ [])) (k p f there)

pub used_less : (old new : List (Option PageId)) (used : List ℕ) (page : PageId) → AreUsed old used → IsRehomed old new page None → AreUsed new used
used_less old new used page k r p f e = cases (same_page p page) refl
  where
    cases : (b : Bool) → same_page p page ≡ b → list_any (λ u. u == f) used ≡ true
    cases true t = absurd (none-some f (sym (r.homes p ∙ ap (λ b. cond b None (home old p)) t) ∙ e))
    cases false t = k p f (sym (r.homes p ∙ ap (λ b. cond b None (home old p)) t) ∙ e)

pub used_same : (old new : List (Option PageId)) (used : List ℕ) (frames : ℕ) → AreUsed old used → IsRoomChanged old new frames → AreUsed new used
used_same old new used frames k r p f e = k p f (sym (r.homes p) ∙ e)
