-- Words between blanks, and items between other bytes.
use Rattle.std.proofs.Common.{lit<, ℕ, List, [], ◌∷◌, ◌++◌, ◌≡◌, ◌+◌, ◌<◌, ◌∙◌, true, false, map, refl, ap}
use Rattle.std.specs.Prelude.{◌==◌}
use Rattle.std.specs.List.{AllByRecursion, slice_split}
use Rattle.std.proofs.lemmas.List.Elements.{All-append, All-cons, All-nil}
use Rattle.std.proofs.lemmas.List.Splits.{slice_split_none, slice_split_at}
use Rattle.page_ids.specs.Spelling.{after_commas}
use Rattle.std.proofs.lemmas.List.{append-nil}
use Rattle.page_ids.proofs.Cuts.{Lacks}
use Rattle.trail.proofs.Visible.{visible, AreVisible, visible_lacks}

pub lacks-append : (c : ℕ) (xs : List ℕ) (y : ℕ) (ys : List ℕ) → Lacks c xs → (y == c) ≡ false → Lacks c ys → Lacks c (xs ++ y ∷ ys)
lacks-append c xs y ys a b e = All-append (λ x. (x == c) ≡ false) xs (y ∷ ys) a (All-cons (λ x. (x == c) ≡ false) y ys b e)

-- each word behind a blank
abbrev pub spelled : List (List ℕ) → List ℕ
spelled [] = []
spelled (w ∷ ws) = 32 ∷ w ++ spelled ws

pub words_cut : (w : List ℕ) (ws : List (List ℕ)) → visible w ≡ true → AreVisible ws → slice_split (λ x. x == 32) (w ++ spelled ws) ≡ w ∷ ws
words_cut w [] v vs = ap (slice_split (λ x. x == 32)) (append-nil w) ∙ slice_split_none (λ x. x == 32) w (visible_lacks 32 (lit< tt) w v)
words_cut w (x ∷ ws) v vs = slice_split_at (λ x. x == 32) w 32 (x ++ spelled ws) (visible_lacks 32 (lit< tt) w v) refl ∙ ap (λ t. w ∷ t) (words_cut x ws vs.0 vs.1)

-- a line of words has no line's end
pub line_lacks : (w : List ℕ) (ws : List (List ℕ)) → visible w ≡ true → AreVisible ws → Lacks 10 (w ++ spelled ws)
line_lacks w [] v vs = All-append (λ x. (x == 10) ≡ false) w [] (visible_lacks 10 (lit< tt) w v) (All-nil (λ x. (x == 10) ≡ false))
line_lacks w (x ∷ ws) v vs = lacks-append 10 w 32 (x ++ spelled ws) (visible_lacks 10 (lit< tt) w v) refl (line_lacks x ws vs.0 vs.1)

-- items with commas between them
pub items_cut : {A : Type 0} → (item : A → List ℕ) (IsItem : A → Type 0) → ((x : A) → IsItem x → Lacks 44 (item x)) → (x : A) (xs : List A) → IsItem x → AllByRecursion IsItem xs
    → slice_split (λ c. c == 44) (item x ++ after_commas item xs) ≡ item x ∷ map item xs
items_cut item IsItem lacks x [] h hs = ap (slice_split (λ c. c == 44)) (append-nil (item x)) ∙ slice_split_none (λ c. c == 44) (item x) (lacks x h)
items_cut item IsItem lacks x (y ∷ ys) h hs =
    slice_split_at (λ c. c == 44) (item x) 44 (item y ++ after_commas item ys) (lacks x h) refl ∙ ap (λ t. item x ∷ t) (items_cut item IsItem lacks y ys hs.0 hs.1)
