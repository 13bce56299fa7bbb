-- The lines of a text and the words of a line, found by cuts.
use Rattle.std.proofs.Common.{ℕ, List, [], ◌∷◌, ◌≡◌, ◌∙◌, None, Some, refl, ap}
use Rattle.std.specs.Prelude.{◌==◌}
use Rattle.std.specs.List.{AllByRecursion, slice_split, join_with_byte}
use Rattle.std.proofs.lemmas.Bool.{eq-eqb}
use Rattle.std.proofs.lemmas.List.Splits.{slice_split_none, slice_split_at}
use Rattle.page_ids.specs.Numerals.{cut_at}
use Rattle.page_ids.proofs.Cuts.{Lacks, cut_is, cut_lacks, uncut_lacks}

-- words with no space in them are found again
pub words_joined : (w : List ℕ) (ws : List (List ℕ)) → Lacks 32 w → AllByRecursion (Lacks 32) ws → slice_split (λ x. x == 32) (join_with_byte 32 (w ∷ ws)) ≡ w ∷ ws
words_joined w [] h hs = slice_split_none (λ x. x == 32) w h
words_joined w (v ∷ ws) h hs = slice_split_at (λ x. x == 32) w 32 (join_with_byte 32 (v ∷ ws)) h refl ∙ ap (λ vs. w ∷ vs) (words_joined v ws hs.0 hs.1)

-- the first part, and the parts of the rest
pub cut_split : (c : ℕ) (bs xs ys : List ℕ) → cut_at c bs ≡ Some (xs, ys) → slice_split (λ x. x == c) bs ≡ xs ∷ slice_split (λ x. x == c) ys
cut_split c bs xs ys e =
    ap (λ zs. slice_split (λ x. x == c) zs) (cut_is c bs xs ys e) ∙ slice_split_at (λ x. x == c) xs c ys (cut_lacks c bs xs ys e) (eq-eqb c c refl)

pub uncut_split : (c : ℕ) (bs : List ℕ) → cut_at c bs ≡ None → slice_split (λ x. x == c) bs ≡ bs ∷ []
uncut_split c bs e = slice_split_none (λ x. x == c) bs (uncut_lacks c bs e)
