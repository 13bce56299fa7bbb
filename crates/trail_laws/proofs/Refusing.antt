-- Which causes a call may be refused with, cause by cause, be the answer an entry or a note.
use Rattle.std.proofs.Common.{◌≡◌, ◌<◌, ◌≤◌, ℕ, Bool, true, false, cond, List, [], ◌∷◌, ◌*◌, Option, Some, None, IfSome, IsSomeAnd, length, refl, ap, ◌∙◌, sym, subst, arith}
use Rattle.std.specs.Option.{IfNone, option_or}
use Rattle.page_ids.specs.Chunks.{chunks_for}
use Rattle.page_ids.specs.Faults.{Rose}
use Rattle.page_ids.specs.FrameWord.{is_latched}
use Rattle.page_ids.specs.Same.{same_page}
use Rattle.page_ids.specs.declared.ids.PageId.{PageId}
use Rattle.page_ids.specs.declared.frame_word.Word.{Word}
use Rattle.page_ids.specs.declared.layout.BadPage.{BadPage}
use Rattle.page_ids.specs.declared.limits.TheConstants.{MOST_FIXES, MOST_WATCHES}
use Rattle.trail.specs.declared.event.Call.{Call}
use Rattle.trail.specs.declared.event.Call.TheVariants as call
use Rattle.trail.specs.declared.event.Cause.{Cause}
use Rattle.trail.specs.declared.event.Cause.TheVariants as cause
use Rattle.trail.specs.declared.event.Entry.{Entry}
use Rattle.trail.specs.declared.event.Event.{Event}
use Rattle.trail.specs.Trails.{AreNumbered, Opening, before}
use Rattle.trail.specs.History.{disk_faults, home, log_faults}
use Rattle.trail.specs.Book.{Area, book}
use Rattle.trail.specs.Words.{Hint, hint_of}
use Rattle.trail.specs.Calls.{before_call, made, open_fixes}
use Rattle.trail.specs.Needs.{HasPlaces, others_area}
use Rattle.trail.specs.Preceding.{is_undo}
use Rattle.trail.specs.Spaces.{IsOutside, named_page, sought_page}
use Rattle.trail.specs.Causes.{IsLogSpent, IsOther, IsSpent, IsStale, IsUndone, before_undo, due, full_cause, frame_cause, large_cause, resident_cause, small_cause, withdrawing_cause}
use Rattle.trail.specs.Victim.{AreAllFixed}
use Rattle.trail.proofs.Judging.{first_of, outside_of}
use Rattle.trail_laws.specs.Adding.{MayAsk, IsCalling, MayRefuse}
use Rattle.trail_laws.proofs.Places.{before_all, before_more}
use Rattle.trail_laws.proofs.Asking.{has_frame, has_no_frame, is_full, is_large, is_resident, is_withdrawing, not_full, not_large, not_small, reached}

-- a refusal that tells no number of pages
untold : (pages : ℕ → ℕ) (named : Option PageId) → IfSome named (λ p. let count : Option ℕ = None in IfSome count (λ n. n ≡ pages p.space))
untold pages None = tt
untold pages (Some p) = tt

-- Causes that come where they hold, to a call of which no exact cause is due.
pub every_frame_fixed : (o : Opening) (pages : ℕ → ℕ) (h base : List Entry) (mine : List Event) (c n : ℕ) (asked : Call) (p : PageId) (seen : List (ℕ × Word)) → before_call (made n mine) h ≡ base → MayAsk o pages base c n asked
    → due o h mine c n asked ≡ None → named_page asked ≡ Some p → AreAllFixed o.config h p seen → MayRefuse o pages h mine c n asked (cause.AllFixed seen)
every_frame_fixed o pages h base mine c n asked p seen at ask none named all =
    let A : Option PageId → Type 0 = λ page. IsSomeAnd page (λ q. AreAllFixed o.config h q seen) in
    record { causes = λ past told. (reached o pages past h base (made n mine) c n asked at ask told, (none, subst A (sym named) all)); spaces = record { inside = ask.inside; told = untold pages (named_page asked) } }

pub log_failed : (o : Opening) (pages : ℕ → ℕ) (h base : List Entry) (mine : List Event) (c n : ℕ) (asked : Call) (before after : ℕ) → before_call (made n mine) h ≡ base → MayAsk o pages base c n asked
    → due o h mine c n asked ≡ None → Rose before after → log_faults h ≤ before → MayRefuse o pages h mine c n asked (cause.RedoFault before after)
log_failed o pages h base mine c n asked before after at ask none rose later =
    record { causes = λ past told. (reached o pages past h base (made n mine) c n asked at ask told, (none, (rose, later))); spaces = record { inside = ask.inside; told = untold pages (named_page asked) } }

pub disk_failed : (o : Opening) (pages : ℕ → ℕ) (h base : List Entry) (mine : List Event) (c n : ℕ) (asked : Call) (before after : ℕ) → before_call (made n mine) h ≡ base → MayAsk o pages base c n asked
    → due o h mine c n asked ≡ None → Rose before after → disk_faults h ≤ before → MayRefuse o pages h mine c n asked (cause.DiskFault before after)
disk_failed o pages h base mine c n asked before after at ask none rose later =
    record { causes = λ past told. (reached o pages past h base (made n mine) c n asked at ask told, (none, (rose, later))); spaces = record { inside = ask.inside; told = untold pages (named_page asked) } }

pub page_is_bad : (o : Opening) (pages : ℕ → ℕ) (h base : List Entry) (mine : List Event) (c n : ℕ) (asked : Call) (p : PageId) (bad : BadPage) → before_call (made n mine) h ≡ base → MayAsk o pages base c n asked
    → due o h mine c n asked ≡ None → named_page asked ≡ Some p → IsOther p bad → MayRefuse o pages h mine c n asked (cause.BadPage bad)
page_is_bad o pages h base mine c n asked p bad at ask none named other =
    let B : Option PageId → Type 0 = λ page. IsSomeAnd page (λ q. IsOther q bad) in
    record { causes = λ past told. (reached o pages past h base (made n mine) c n asked at ask told, (none, subst B (sym named) other)); spaces = record { inside = ask.inside; told = untold pages (named_page asked) } }

pub log_is_spent : (o : Opening) (pages : ℕ → ℕ) (h base : List Entry) (mine : List Event) (c n : ℕ) (asked : Call) (end : ℕ) → before_call (made n mine) h ≡ base → MayAsk o pages base c n asked
    → due o h mine c n asked ≡ None → IsLogSpent h asked end → MayRefuse o pages h mine c n asked (cause.LogSpent end)
log_is_spent o pages h base mine c n asked end at ask none spent =
    record { causes = λ past told. (reached o pages past h base (made n mine) c n asked at ask told, (none, spent)); spaces = record { inside = ask.inside; told = untold pages (named_page asked) } }

pub rounds_undone : (o : Opening) (pages : ℕ → ℕ) (h base : List Entry) (mine : List Event) (c n : ℕ) (asked : Call) (seen : List (ℕ × Word)) → before_call (made n mine) h ≡ base → MayAsk o pages base c n asked
    → due o h mine c n asked ≡ None → IsUndone o.config (before_undo (made n mine) h) asked seen → MayRefuse o pages h mine c n asked (cause.Undone seen)
rounds_undone o pages h base mine c n asked seen at ask none undone =
    record { causes = λ past told. (reached o pages past h base (made n mine) c n asked at ask told, (none, undone)); spaces = record { inside = ask.inside; told = untold pages (named_page asked) } }

pub hint_is_stale : (o : Opening) (pages : ℕ → ℕ) (h base : List Entry) (mine : List Event) (c n : ℕ) (asked : Call) (hint : Hint) (found : Word) → before_call (made n mine) h ≡ base → MayAsk o pages base c n asked
    → due o h mine c n asked ≡ None → hint_of asked ≡ Some hint → IsStale found hint → MayRefuse o pages h mine c n asked (cause.Stale found)
hint_is_stale o pages h base mine c n asked hint found at ask none of stale =
    let S : Option Hint → Type 0 = λ x. IsSomeAnd x (IsStale found) in
    record { causes = λ past told. (reached o pages past h base (made n mine) c n asked at ask told, (none, subst S (sym of) stale)); spaces = record { inside = ask.inside; told = untold pages (named_page asked) } }

pub other_page_there : (o : Opening) (pages : ℕ → ℕ) (h base : List Entry) (mine : List Event) (c n : ℕ) (asked : Call) (hint : Hint) (found : PageId) → before_call (made n mine) h ≡ base → MayAsk o pages base c n asked
    → due o h mine c n asked ≡ None → hint_of asked ≡ Some hint → same_page found hint.page ≡ false → MayRefuse o pages h mine c n asked (cause.OtherPage found)
other_page_there o pages h base mine c n asked hint found at ask none of other =
    let S : Option Hint → Type 0 = λ x. IsSomeAnd x (λ (t : Hint). same_page found t.page ≡ false) in
    record { causes = λ past told. (reached o pages past h base (made n mine) c n asked at ask told, (none, subst S (sym of) other)); spaces = record { inside = ask.inside; told = untold pages (named_page asked) } }

pub frame_was_latched : (o : Opening) (pages : ℕ → ℕ) (h base : List Entry) (mine : List Event) (c n : ℕ) (asked : Call) (found : Word) → before_call (made n mine) h ≡ base → MayAsk o pages base c n asked
    → due o h mine c n asked ≡ None → is_latched found ≡ true → MayRefuse o pages h mine c n asked (cause.Latched found)
frame_was_latched o pages h base mine c n asked found at ask none latched =
    record { causes = λ past told. (reached o pages past h base (made n mine) c n asked at ask told, (none, latched)); spaces = record { inside = ask.inside; told = untold pages (named_page asked) } }

pub frame_was_busy : (o : Opening) (pages : ℕ → ℕ) (h base : List Entry) (mine : List Event) (c n : ℕ) (asked : Call) (found : Word) → before_call (made n mine) h ≡ base → MayAsk o pages base c n asked
    → due o h mine c n asked ≡ None → is_latched found ≡ true → MayRefuse o pages h mine c n asked (cause.Busy found)
frame_was_busy o pages h base mine c n asked found at ask none latched =
    record { causes = λ past told. (reached o pages past h base (made n mine) c n asked at ask told, (none, latched)); spaces = record { inside = ask.inside; told = untold pages (named_page asked) } }

-- Exact causes, each the first that is due.
pub holds_all : (o : Opening) (pages : ℕ → ℕ) (h base : List Entry) (mine : List Event) (c n : ℕ) (asked : Call) → before_call (made n mine) h ≡ base → MayAsk o pages base c n asked
    → due o h mine c n asked ≡ Some (cause.HoldFull MOST_FIXES) → MayRefuse o pages h mine c n asked (cause.HoldFull MOST_FIXES)
holds_all o pages h base mine c n asked at ask is =
    record { causes = λ past told. (reached o pages past h base (made n mine) c n asked at ask told, first_of _ _ _ is); spaces = record { inside = ask.inside; told = untold pages (named_page asked) } }

pub page_is_resident : (o : Opening) (pages : ℕ → ℕ) (h base : List Entry) (mine : List Event) (c n : ℕ) (asked : Call) (f : ℕ) → before_call (made n mine) h ≡ base → MayAsk o pages base c n asked
    → due o h mine c n asked ≡ Some (cause.Resident f) → MayRefuse o pages h mine c n asked (cause.Resident f)
page_is_resident o pages h base mine c n asked f at ask is =
    record { causes = λ past told. (reached o pages past h base (made n mine) c n asked at ask told, first_of _ _ _ is); spaces = record { inside = ask.inside; told = untold pages (named_page asked) } }

pub watches_full : (o : Opening) (pages : ℕ → ℕ) (h base : List Entry) (mine : List Event) (c n : ℕ) (asked : Call) → before_call (made n mine) h ≡ base → MayAsk o pages base c n asked
    → due o h mine c n asked ≡ Some (cause.WatchFull MOST_WATCHES) → MayRefuse o pages h mine c n asked (cause.WatchFull MOST_WATCHES)
watches_full o pages h base mine c n asked at ask is =
    record { causes = λ past told. (reached o pages past h base (made n mine) c n asked at ask told, first_of _ _ _ is); spaces = record { inside = ask.inside; told = untold pages (named_page asked) } }

pub never_watched : (o : Opening) (pages : ℕ → ℕ) (h base : List Entry) (mine : List Event) (c n : ℕ) (asked : Call) → before_call (made n mine) h ≡ base → MayAsk o pages base c n asked
    → due o h mine c n asked ≡ Some cause.NoWatch → MayRefuse o pages h mine c n asked cause.NoWatch
never_watched o pages h base mine c n asked at ask is =
    record { causes = λ past told. (reached o pages past h base (made n mine) c n asked at ask told, first_of _ _ _ is); spaces = record { inside = ask.inside; told = untold pages (named_page asked) } }

pub too_small : (o : Opening) (pages : ℕ → ℕ) (h base : List Entry) (mine : List Event) (c n : ℕ) (asked : Call) → before_call (made n mine) h ≡ base → MayAsk o pages base c n asked
    → due o h mine c n asked ≡ Some cause.TooSmall → MayRefuse o pages h mine c n asked cause.TooSmall
too_small o pages h base mine c n asked at ask is =
    record { causes = λ past told. (reached o pages past h base (made n mine) c n asked at ask told, first_of _ _ _ is); spaces = record { inside = ask.inside; told = untold pages (named_page asked) } }

pub too_large : (o : Opening) (pages : ℕ → ℕ) (h base : List Entry) (mine : List Event) (c n : ℕ) (asked : Call) (chunks max : ℕ) → before_call (made n mine) h ≡ base → MayAsk o pages base c n asked
    → due o h mine c n asked ≡ Some (cause.TooLarge chunks max) → MayRefuse o pages h mine c n asked (cause.TooLarge chunks max)
too_large o pages h base mine c n asked chunks max at ask is =
    record { causes = λ past told. (reached o pages past h base (made n mine) c n asked at ask told, first_of _ _ _ is); spaces = record { inside = ask.inside; told = untold pages (named_page asked) } }

pub others_withdraw : (o : Opening) (pages : ℕ → ℕ) (h base : List Entry) (mine : List Event) (c n : ℕ) (asked : Call) (from : ℕ) → before_call (made n mine) h ≡ base → MayAsk o pages base c n asked
    → due o h mine c n asked ≡ Some (cause.Withdrawing from) → MayRefuse o pages h mine c n asked (cause.Withdrawing from)
others_withdraw o pages h base mine c n asked from at ask is =
    record { causes = λ past told. (reached o pages past h base (made n mine) c n asked at ask told, first_of _ _ _ is); spaces = record { inside = ask.inside; told = untold pages (named_page asked) } }

pub no_such_frame : (o : Opening) (pages : ℕ → ℕ) (h base : List Entry) (mine : List Event) (c n : ℕ) (asked : Call) (frames : ℕ) → before_call (made n mine) h ≡ base → MayAsk o pages base c n asked
    → due o h mine c n asked ≡ Some (cause.NoFrame frames) → MayRefuse o pages h mine c n asked (cause.NoFrame frames)
no_such_frame o pages h base mine c n asked frames at ask is =
    record { causes = λ past told. (reached o pages past h base (made n mine) c n asked at ask told, first_of _ _ _ is); spaces = record { inside = ask.inside; told = untold pages (named_page asked) } }

-- That a caller has no fix of the page stands before all other causes.
pub holds_none : (o : Opening) (pages : ℕ → ℕ) (h : List Entry) (mine : List Event) (c n : ℕ) (asked : Call) → IfSome (sought_page asked) (λ p. p.page < pages p.space)
    → due o h mine c n asked ≡ Some cause.Unheld → MayRefuse o pages h mine c n asked cause.Unheld
holds_none o pages h mine c n asked inside is = record { causes = λ past told. first_of _ _ _ is; spaces = record { inside = inside; told = untold pages (named_page asked) } }

-- The page isn't among those of its space.
pub no_such_page : (o : Opening) (pages : ℕ → ℕ) (h base : List Entry) (mine : List Event) (c n : ℕ) (asked : Call) (p : PageId) (count : ℕ) → before_call (made n mine) h ≡ base → HasPlaces o.first o.config base c n asked
    → named_page asked ≡ Some p → count ≡ pages p.space → count ≤ p.page → IfNone (sought_page asked) (due o h mine c n asked ≡ None) → MayRefuse o pages h mine c n asked (cause.NoSuchPage count)
no_such_page o pages h base mine c n asked p count at places named is beyond none =
    let P : List Entry → Type 0 = λ l. HasPlaces o.first o.config l c n asked in
    let T : Option PageId → Type 0 = λ page. IfSome page (λ q. IfSome (Some count) (λ m. m ≡ pages q.space)) in
    record {
      causes = λ past told. let O : Option PageId → Type 0 = λ page. IsSomeAnd page (λ q. IsOutside past q count) in
          (subst P (sym at) places, subst O (sym named) (outside_of pages past p count (told p.space) is beyond), none);
      spaces = record { inside = tt; told = subst T (sym named) is };
    }

-- The history has not the places that a call needs: at its first entry, or in a later round of a resize, which took its withdrawal back.
pub places_spent : (o : Opening) (pages : ℕ → ℕ) (h : List Entry) (mine : List Event) (c n : ℕ) (asked : Call) (mark need : ℕ) → IsCalling mine n [] → IsSpent o h mine c n asked mark need
    → MayRefuse o pages h mine c n asked (cause.PlacesSpent mark need)
places_spent o pages h mine c n asked mark need calling spent =
    let S : List Entry → Type 0 = λ l. IsSpent o (before_undo l h) mine c n asked mark need in
    record { causes = λ past told. subst S (sym calling.made_are) spent; spaces = record { inside = tt; told = untold pages (named_page asked) } }

pub places_spent_later : (o : Opening) (pages : ℕ → ℕ) (undo : Entry) (h : List Entry) (mine : List Event) (pending : List Entry) (c n : ℕ) (asked : Call) (mark need : ℕ) → AreNumbered o.first (undo ∷ h) → IsCalling mine n (undo ∷ pending)
    → is_undo undo.kind ≡ true → IsSpent o h mine c n asked mark need → MayRefuse o pages (undo ∷ h) mine c n asked (cause.PlacesSpent mark need)
places_spent_later o pages undo h mine pending c n asked mark need numbered calling is spent =
    let S : List Entry → Type 0 = λ l. IsSpent o l mine c n asked mark need in
    let back : before_undo (made n mine) (undo ∷ h) ≡ h =
    ap (λ l. before_undo l (undo ∷ h)) calling.made_are ∙ ap (λ (t : Bool). cond t (before undo.place (undo ∷ h)) (undo ∷ h)) is
    ∙ before_more undo.place undo h (omega arith) ∙ before_all o.first undo.place h (omega (arith, numbered.0)) in
    record { causes = λ past told. subst S (sym back) spent; spaces = record { inside = tt; told = untold pages (named_page asked) } }

-- Which exact cause is due first, call by call.
due_behind : (first behind : Option Cause) (why : Cause) → first ≡ None → behind ≡ Some why → option_or first behind ≡ Some why
due_behind first behind why none is = ap (λ x. option_or x behind) none ∙ is

pub due_full_create : (o : Opening) (h : List Entry) (mine : List Event) (c n : ℕ) (p : PageId) (now : ℕ) → length (open_fixes mine) ≡ MOST_FIXES → due o h mine c n (call.Create p now) ≡ Some (cause.HoldFull MOST_FIXES)
due_full_create o h mine c n p now full = first_of (full_cause mine) (resident_cause h p) _ (is_full mine full)

pub due_resident : (o : Opening) (h : List Entry) (mine : List Event) (c n : ℕ) (p : PageId) (now f : ℕ) → length (open_fixes mine) < MOST_FIXES → home h p ≡ Some f → due o h mine c n (call.Create p now) ≡ Some (cause.Resident f)
due_resident o h mine c n p now f few is = due_behind (full_cause mine) (resident_cause h p) _ (not_full mine few) (is_resident h p f is)

pub due_frame : (o : Opening) (h : List Entry) (mine : List Event) (c n : ℕ) (p : PageId) (f clock : ℕ) → o.config.frames * o.config.max ≤ f → due o h mine c n (call.Guess p f clock) ≡ Some (cause.NoFrame (o.config.frames * o.config.max))
due_frame o h mine c n p f clock beyond = first_of (frame_cause o.config f) (full_cause mine) _ (has_no_frame o.config f beyond)

pub due_full_guess : (o : Opening) (h : List Entry) (mine : List Event) (c n : ℕ) (p : PageId) (f clock : ℕ) → f < o.config.frames * o.config.max → length (open_fixes mine) ≡ MOST_FIXES
    → due o h mine c n (call.Guess p f clock) ≡ Some (cause.HoldFull MOST_FIXES)
due_full_guess o h mine c n p f clock below full = due_behind (frame_cause o.config f) (full_cause mine) _ (has_frame o.config f below) (is_full mine full)

pub due_small : (o : Opening) (h : List Entry) (mine : List Event) (c n rounds : ℕ) → due o h mine c n (call.Resize 0 rounds) ≡ Some cause.TooSmall
due_small o h mine c n rounds = refl

pub due_large : (o : Opening) (h : List Entry) (mine : List Event) (c n bytes rounds : ℕ) → 1 ≤ bytes → o.config.max < chunks_for o.config bytes
    → due o h mine c n (call.Resize bytes rounds) ≡ Some (cause.TooLarge (chunks_for o.config bytes) o.config.max)
due_large o h mine c n bytes rounds some many =
    due_behind (small_cause bytes) (option_or (large_cause o.config bytes) (withdrawing_cause o.config h c n)) _ (not_small bytes some)
    (first_of (large_cause o.config bytes) (withdrawing_cause o.config h c n) _ (is_large o.config bytes many))

pub due_withdrawing : (o : Opening) (h : List Entry) (mine : List Event) (c n bytes rounds : ℕ) (a : Area) → 1 ≤ bytes → chunks_for o.config bytes ≤ o.config.max → others_area (book o.config h) c n ≡ Some a
    → due o h mine c n (call.Resize bytes rounds) ≡ Some (cause.Withdrawing a.from)
due_withdrawing o h mine c n bytes rounds a some fits is =
    due_behind (small_cause bytes) (option_or (large_cause o.config bytes) (withdrawing_cause o.config h c n)) _ (not_small bytes some)
    (due_behind (large_cause o.config bytes) (withdrawing_cause o.config h c n) _ (not_large o.config bytes fits) (is_withdrawing o.config h c n a is))
