-- Blank images are laid into the frames of a chunk.
use Rattle.std.proofs.Common.{◌≡◌, ℕ, zero, suc, List, ◌<◌, ◌≤◌, ◌*◌, ◌+◌, length, get_or, set, ap, ◌∙◌, arith, replicate, ⊎_elim, length-set}
use Rattle.std.proofs.lemmas.Bool.{cases_lt}
use Rattle.page_ids.specs.Content.{Content}
use Rattle.frame_words.specs.Plain.{Plain, seen_of}
use Rattle.frame_words.specs.Rows.{Row, new_row, laid_row}
use Rattle.frame_words.specs.Seen.{FramesSeen, row_at, with_row}
use Rattle.desk.specs.Loads.{AreBlank}
use Rattle.desk.proofs.Rows.{row_here, row_else}
use mathlib.Core.Logic.{dite}
use native.Mathlib.Decide.{ℕ_discrete}

-- an image of a page of zeros
abbrev blank_of : ℕ → Content
blank_of size = record { lsn = 0; bytes = replicate size 0 }

-- a blank image was laid into the next frame
pub blank_more : (size k n : ℕ) (p t : Plain) → k < n → AreBlank size k n p → seen_of t ≡ with_row (seen_of p) k (laid_row (row_at (seen_of p) k) (blank_of size)) → AreBlank size (k + 1) n t
blank_more size k n p t below b seen =
    let row = laid_row (row_at (seen_of p) k) (blank_of size) in
    let rows : t.rows ≡ set p.rows k row = ap (λ (s : FramesSeen). s.rows) seen in
    let inside : k < length p.rows = omega (arith, below, b.count_is) in
    record {
      count_is = ap (length {A = Row}) rows ∙ length-set p.rows k row ∙ b.count_is;
      unvisited = ap (λ (s : FramesSeen). s.visit) seen ∙ b.unvisited;
      none_owed = ap (λ (s : FramesSeen). s.owed) seen ∙ b.none_owed;
      blank = λ f within. ap (λ (l : List Row). get_or l f new_row) rows ∙ dite (ℕ_discrete f k)
          (λ same. ap (λ (g : ℕ). get_or (set p.rows k row) g new_row) same ∙ row_here p.rows k row inside
          ∙ ap (λ (r : Row). laid_row r (blank_of size)) (b.bare k (omega arith)))
          (λ other. row_else p.rows k f row other ∙ b.blank f (least f k within other));
      bare = λ f from. ap (λ (l : List Row). get_or l f new_row) rows ∙ row_else p.rows k f row (λ e. absurd (omega (arith, e, from))) ∙ b.bare f (omega (arith, from));
    }
  where
    least : (f k : ℕ) → f < k + 1 → (f ≡ k → ⊥) → f < k
    least f k within other = ⊎_elim (λ lt. lt) (λ le. absurd (other (omega (arith, le, within)))) (cases_lt f k)

pub times_some : (n m : ℕ) → 1 ≤ m → n ≤ n * m
times_some n zero some = absurd (omega (arith, some))
times_some n (suc m) some = let more : n * suc m ≡ n * m + n = Rattle.std.proofs.Math.Nat.mul-suc n m in omega (arith, more)
