-- What a pass knows in its turn, and what lies under the lock.
use Rattle.std.proofs.Common.{◌≡◌, ◌⊎◌, ℕ, ◌+◌, ◌≤◌, ◌<◌, ◌++◌, Bool, true, false, leb, List, [], ◌∷◌, length, Option, Some, None, IfSome, Result, Ok, Err, refl, sym, ap, ◌∙◌, subst, arith, length-append, inl, inr, ⊎_elim}
use Rattle.std.proofs.lemmas.Bool.Decides.{nat_tests}
use Rattle.std.proofs.lemmas.List.{append-nil}
use Rattle.redo_mark.specs.Logs.{Seen, Grows, IsLater, IsLonger, IsMeasured}
use Rattle.redo_log.specs.declared.view.Piece.{Piece}
use Rattle.redo_log.specs.declared.view.Story.{Story}
use Rattle.redo_log.specs.declared.view.View.{View}
use Rattle.redo_log.specs.Story.{end_of, longer, piece_at}
use Rattle.redo_log.specs.Marks.{words_of, IsSoundStory, taken, told, appended, raised, Looks}
use Rattle.redo_log.specs.Turns.{Agrees, IsTurn}

none_more : (more : List ℕ) → length more ≡ 0 → more ≡ []
none_more [] is = refl
none_more (x ∷ more) is = absurd (omega (arith, is))

bytes_same : (old new : Option (List ℕ)) (bytes : List ℕ) (opened end : ℕ) → Grows old new → IfSome old (λ before. before ≡ bytes)
    → IfSome new (λ after. opened + length after ≡ end) → opened + length bytes ≡ end → IfSome new (λ after. after ≡ bytes)
bytes_same None new bytes opened end grows was count whole = subst (λ (o : Option (List ℕ)). IfSome o (λ after. after ≡ bytes)) (sym grows) tt
bytes_same (Some a) None bytes opened end grows was count whole = tt
bytes_same (Some a) (Some b) bytes opened end grows was count whole =
    let more = grows.0 in
    let len = length-append a more in
    let all = ap length grows.1 in
    let front = ap length was in
    let none : more ≡ [] = none_more more (omega (arith, len, all, front, count, whole)) in
    grows.1 ∙ ap (λ l. a ++ l) none ∙ append-nil a ∙ was

-- the marks rose, and no record came
pub turn_covered : (v w : View) (old new : Seen) → IsTurn v old → IsLater old new → IsMeasured new → new.end ≡ old.end
    → w ≡ raised v new.durable new.faults → IsTurn w new
turn_covered v w old new turn later measured same at =
    let s = turn.agrees in
    let opened : v.story.opened ≡ new.opened = s.opened ∙ sym later.opened in
    let end : end_of v.story ≡ new.end = s.end ∙ sym same in
    subst (λ (t : View). IsTurn t new) (sym at) record {
      keeps = turn.keeps;
      agrees = record {
        opened = opened;
        end = end;
        durable = refl;
        faults = refl;
        bytes = bytes_same old.bytes new.bytes v.story.bytes new.opened new.end later.bytes s.bytes measured.bytes (omega (arith, opened, end));
      };
      sound = record { low = omega (arith, opened, measured.low); high = omega (arith, end, measured.high) };
      end = end;
      durable = refl;
      faults = refl;
    }

-- a mark that isn't at an LSN is below it
pub below : (lsn mark : ℕ) → (lsn ≤ mark → ⊥) → mark < lsn
below lsn mark not = ⊎_elim (λ (h : lsn ≤ mark). absurd (not h)) (λ (h : mark < lsn). h) (sides (leb lsn mark) refl)
  where
    sides : (b : Bool) → leb lsn mark ≡ b → (lsn ≤ mark) ⊎ (mark < lsn)
    sides true is = inl (grind (arith, nat_tests))
    sides false is = inr (grind (arith, nat_tests))

abbrev error_of : {T E : Type 0} → E → Result T E → E
error_of d (Ok x) = d
error_of d (Err e) = e

-- the same refusal of two calls that answer different things
pub same_error : {T U E : Type 0} (a b : E) → ◌≡◌ {A = Result T E} (Err a) (Err b) → ◌≡◌ {A = Result U E} (Err a) (Err b)
same_error a b is = ap Err (ap (error_of a) is)
