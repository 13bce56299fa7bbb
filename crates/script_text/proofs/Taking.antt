-- What lines make of what was said so far.
use Rattle.std.proofs.Common.{ℕ, List, [], ◌∷◌, ◌++◌, ◌≡◌, ◌+◌, ◌∙◌, Bool, true, false, Option, None, Some, length, refl, sym, ap, subst}
use Rattle.std.specs.Prelude.{if◌then◌else◌}
use Rattle.std.proofs.lemmas.List.{append_assoc, append-nil, length-append}
use Rattle.script_text.specs.declared.lines.Item.{Item}
use Rattle.script_text.specs.Reading.{line_says}
use Rattle.script_text.specs.Grammar.{SoFar, step, Line, IsRefusedLine, Takes, AreRead, nothing_said}
use Rattle.script_text.specs.Verdict.{IsBadLine}
use Rattle.script_text.proofs.Exact.{read_is_spelled, spelled_is_read}

line_step : (old after : SoFar) (line : List ℕ) (i : Item) → line_says line ≡ Some i → Line old line after → step old i ≡ Some after
line_step old after line i says (j, spelled, stepped) =
    let same : j ≡ i = let other : line_says line ≡ Some j = spelled_is_read line j spelled in cc in
    subst (λ (k : Item). step old k ≡ Some after) same stepped

pub refused : (old : SoFar) (line : List ℕ) → line_says line ≡ None → IsRefusedLine old line
refused old line says after (j, spelled, stepped) = let other : line_says line ≡ Some j = spelled_is_read line j spelled in
    let bad : ◌≡◌ {A = Option Item} None (Some j) = sym says ∙ other in absurd (cc)

pub taken : (old new : SoFar) (line : List ℕ) (i : Item) → line_says line ≡ Some i → (good : Bool) → step old i ≡ (if good then Some new else None) → Takes old line good new
taken old new line i says true stepped = (i, read_is_spelled line i says, stepped)
taken old new line i says false stepped = λ after l.
    let bad : ◌≡◌ {A = Option SoFar} None (Some after) = sym stepped ∙ line_step old after line i says l in absurd (cc)

-- the lines that were taken, and those that are left
pub record Seen (lines : List (List ℕ)) (n : ℕ) (left : List (List ℕ)) (s : SoFar) : Type 0 where
  pub done : List (List ℕ)
  pub whole : lines ≡ done ++ left
  pub place : length done ≡ n
  pub read : AreRead nothing_said done s

more_read : (old mid new : SoFar) (done : List (List ℕ)) (line : List ℕ) → AreRead old done mid → Line mid line new → AreRead old (done ++ line ∷ []) new
more_read old mid new [] line r l = (new, subst (λ (s : SoFar). Line s line new) r l, refl)
more_read old mid new (d ∷ done) line (next, first, rest) l = (next, first, more_read next mid new done line rest l)

pub seen_more : (lines left : List (List ℕ)) (line : List ℕ) (n : ℕ) (old new : SoFar) → Seen lines n (line ∷ left) old → Line old line new → Seen lines (n + 1) left new
seen_more lines left line n old new s l = record {
  done = s.done ++ line ∷ [];
  whole = s.whole ∙ sym (append_assoc s.done (line ∷ []) left);
  place = length-append s.done (line ∷ []) ∙ ap (λ k. k + 1) s.place;
  read = more_read nothing_said old new s.done line s.read l;
}

pub seen_all : (lines : List (List ℕ)) (n : ℕ) (s : SoFar) → Seen lines n [] s → AreRead nothing_said lines s
seen_all lines n s h = subst (λ (ls : List (List ℕ)). AreRead nothing_said ls s) (sym (h.whole ∙ append-nil h.done)) h.read

pub seen_bad : (lines left : List (List ℕ)) (line : List ℕ) (n : ℕ) (s : SoFar) → Seen lines n (line ∷ left) s → IsRefusedLine s line → IsBadLine lines (n + 1)
seen_bad lines left line n s h bad = record {
  earlier = h.done;
  line = line;
  later = left;
  before = s;
  whole = h.whole;
  number = ap (λ k. k + 1) h.place;
  read = h.read;
  bad = bad;
}
