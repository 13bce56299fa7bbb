-- Which notes may come, kind by kind.
use Rattle.std.proofs.Common.{◌≡◌, ◌<◌, ℕ, zero, suc, Bool, true, false, cond, List, [], ◌∷◌, ◌*◌, Some, IsSome, length, refl, ap, ◌∙◌, sym, subst, arith}
use Rattle.std.specs.Prelude.{Contains, slice_index_or}
use Rattle.page_ids.specs.Same.{same_page}
use Rattle.page_ids.specs.declared.ids.PageId.{PageId}
use Rattle.page_ids.specs.declared.limits.TheConstants.{MOST_FIXES}
use Rattle.trail.specs.declared.event.Call.{Call}
use Rattle.trail.specs.declared.event.Call.TheVariants as call
use Rattle.trail.specs.declared.event.Cause.{Cause}
use Rattle.trail.specs.declared.event.Held.{Held}
use Rattle.trail.specs.declared.event.Note.TheVariants as note
use Rattle.trail.specs.declared.event.Entry.{Entry}
use Rattle.trail.specs.declared.event.Event.{Event}
use Rattle.trail.specs.Trails.{AreNumbered, Opening}
use Rattle.trail.specs.Calls.{newest_fix, open_fixes}
use Rattle.trail.specs.Preceding.{MayPrecedeNote, MayPrecedeRefused}
use Rattle.trail.specs.Legal.{IsFix, IsReadOf}
use Rattle.page_ids.proofs.Basics.{same_self}
use Rattle.trail_laws.specs.Adding.{IsCalling, MayNote, MayRefuse}
use Rattle.trail_laws.proofs.Asking.{began, granted, is_held, none_due_guess}
use Rattle.trail_laws.proofs.Appending.{begins}

-- a guess is granted where the page is, at the frame's clock
pub guesses : (o : Opening) (pages : ℕ → ℕ) (h : List Entry) (mine : List Event) (c n : ℕ) (p : PageId) (f clock : ℕ) → AreNumbered o.first h → IsCalling mine n [] → IsFix h p f clock
    → f < o.config.frames * o.config.max → length (open_fixes mine) < MOST_FIXES → MayNote o pages h mine c n (note.Granted p f clock)
guesses o pages h mine c n p f clock numbered calling legal below few = record {
  before = calling.made_are;
  note = legal;
  causes = granted o pages h h mine c n (call.Guess p f clock) (began o.first h h mine n [] numbered (begins h mine n calling)) (record { places = tt; inside = tt }) (none_due_guess o h mine c n p f clock below few);
  spaces = record { inside = tt; told = tt };
}

-- bytes of a page that the caller has fixed, at the clock of its frame
pub copies : (o : Opening) (pages : ℕ → ℕ) (h : List Entry) (mine : List Event) (c n : ℕ) (p : PageId) (at : ℕ) (bytes : List ℕ) (clock : ℕ) → AreNumbered o.first h → IsCalling mine n [] → IsReadOf o h mine p at bytes clock
    → MayNote o pages h mine c n (note.Copied p at bytes clock)
copies o pages h mine c n p at bytes clock numbered calling legal = record {
  before = calling.made_are;
  note = legal;
  causes = granted o pages h h mine c n (call.Read p at (length bytes)) (began o.first h h mine n [] numbered (begins h mine n calling)) (record { places = tt; inside = tt }) (is_held mine p legal.held);
  spaces = record { inside = tt; told = tt };
}

-- a fix that is open is the newest of its page, or another one is
newest_at : (held : List Held) (x : Held) (k : ℕ) → k < length held → slice_index_or held k x ≡ x → IsSome (newest_fix held x.page)
newest_at [] x k below is = absurd (omega (arith, below))
newest_at (y ∷ held) x zero below is =
    let page : y.page ≡ x.page = ap (λ (z : Held). z.page) is in
    let S : Bool → Type 0 = λ b. IsSome (cond b (Some y) (newest_fix held x.page)) in
    subst S (sym (ap (λ q. same_page q x.page) page ∙ same_self x.page)) refl
newest_at (y ∷ held) x (suc k) below is = cases (same_page y.page x.page) (newest_at held x k (omega (arith, below)) is)
  where
    cases : (b : Bool) → IsSome (newest_fix held x.page) → IsSome (cond b (Some y) (newest_fix held x.page))
    cases true some = refl
    cases false some = some

pub newest_of : (held : List Held) (x : Held) → Contains held x → IsSome (newest_fix held x.page)
newest_of held x there = newest_at held x there.0 there.1 there.2

-- an open fix is given back
pub unfixes : (o : Opening) (pages : ℕ → ℕ) (h : List Entry) (mine : List Event) (c n : ℕ) (p : PageId) (f fix : ℕ) → AreNumbered o.first h → IsCalling mine n [] → Contains (open_fixes mine) (record { page = p; frame = f; number = fix })
    → MayNote o pages h mine c n (note.Unfixed p f fix)
unfixes o pages h mine c n p f fix numbered calling there = record {
  before = calling.made_are;
  note = there;
  causes = granted o pages h h mine c n (call.Unfix p) (began o.first h h mine n [] numbered (begins h mine n calling)) (record { places = tt; inside = tt })
      (is_held mine p (newest_of (open_fixes mine) (record { page = p; frame = f; number = fix }) there));
  spaces = record { inside = tt; told = tt };
}

-- A refusal is a note where its cause holds, and the call's entries may stand before it.
pub notes_refusal : (o : Opening) (pages : ℕ → ℕ) (h : List Entry) (mine : List Event) (c n : ℕ) (pending : List Entry) (asked : Call) (why : Cause) → IsCalling mine n pending → MayPrecedeRefused h pending asked why
    → MayRefuse o pages h mine c n asked why → MayNote o pages h mine c n (note.Refused asked why)
notes_refusal o pages h mine c n pending asked why calling before may =
    let B : List Entry → Type 0 = λ l. MayPrecedeNote h l (note.Refused asked why) in
    record { before = subst B (sym calling.made_are) before; note = tt; causes = may.causes; spaces = record { inside = may.spaces.inside; told = may.spaces.told } }
