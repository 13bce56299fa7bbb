-- A list with commas grows by an item.
use Rattle.std.proofs.Common.{◌≡◌, ℕ, List, [], ◌∷◌, ◌++◌, ◌+◌, ◌<◌, length, get_or, take, refl, ap, ◌∙◌, sym, append_assoc}
use Rattle.std.proofs.lemmas.List.{take_more}
use Rattle.page_ids.specs.Spelling.{after_commas}

append_none : (xs : List ℕ) → xs ++ [] ≡ xs
append_none [] = refl
append_none (x ∷ xs) = ap (λ t. x ∷ t) (append_none xs)

module _ {A : Type 0} where
  after_commas-append : (item : A → List ℕ) (xs ys : List A) → after_commas item (xs ++ ys) ≡ after_commas item xs ++ after_commas item ys
  after_commas-append item [] ys = refl
  after_commas-append item (x ∷ xs) ys = ap (λ t. 44 ∷ item x ++ t) (after_commas-append item xs ys) ∙ ap (λ t. 44 ∷ t) (sym (append_assoc (item x) (after_commas item xs) (after_commas item ys)))

  pub listed_more : (item : A → List ℕ) (xs : List A) (i : ℕ) (d : A) → i < length xs → after_commas item (take i xs) ++ 44 ∷ item (get_or xs i d) ≡ after_commas item (take (i + 1) xs)
  listed_more item xs i d inside =
      ap (λ t. after_commas item (take i xs) ++ 44 ∷ t) (sym (append_none (item (get_or xs i d)))) ∙ sym (after_commas-append item (take i xs) (get_or xs i d ∷ [])) ∙ sym (ap (after_commas item) (take_more xs i d inside))
