-- The lines of a trail, one at a time.
use Rattle.std.proofs.Common.{◌≡◌, ℕ, List, [], ◌∷◌, ◌++◌, ◌+◌, ◌<◌, length, get_or, drop, ap, ◌∙◌, sym, append_assoc, drop-cons, add-one, suc}
use Rattle.trail.specs.declared.event.Event.{Event}
use Rattle.trail.specs.Spelling.{lines_text, event_text, Begins}

lines_here : (events : List Event) (i : ℕ) (e : Event) → i < length events → e ≡ get_or events i e → lines_text (drop i events) ≡ (event_text e ++ 10 ∷ []) ++ lines_text (drop (i + 1) events)
lines_here events i e inside here =
    rw (add-one, drop-cons events i e) (ap (λ (x : Event). event_text x ++ 10 ∷ lines_text (drop (suc i) events)) (sym here) ∙ sym (append_assoc (event_text e) (10 ∷ []) (lines_text (drop (suc i) events))))

-- the lines so far and those to come are all lines, after one more line too
pub lines_more : (events : List Event) (i : ℕ) (e : Event) (out line more all : List ℕ) → i < length events → e ≡ get_or events i e → line ≡ event_text e ++ 10 ∷ [] → more ≡ out ++ line
    → out ++ lines_text (drop i events) ≡ all → more ++ lines_text (drop (i + 1) events) ≡ all
lines_more events i e out line more all inside here spelled grown so_far =
    ap (λ t. t ++ lines_text (drop (i + 1) events)) (grown ∙ ap (λ t. out ++ t) spelled) ∙ append_assoc out (event_text e ++ 10 ∷ []) (lines_text (drop (i + 1) events)) ∙ ap (λ t. out ++ t) (sym (lines_here events i e inside here)) ∙ so_far

pub begins_more : (start mid more line : List ℕ) → Begins start mid → more ≡ mid ++ line → Begins start more
begins_more start mid more line b grown = (b.0 ++ line, grown ∙ ap (λ t. t ++ line) b.1 ∙ append_assoc start b.0 line)
