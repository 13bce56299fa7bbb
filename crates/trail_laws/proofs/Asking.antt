-- What a call asks for, and that none of its exact causes is due.
use Rattle.std.proofs.Common.{◌≡◌, ◌<◌, ◌≤◌, ℕ, Bool, true, false, cond, List, ◌+◌, ◌*◌, Option, Some, None, IfSome, IsSome, length, refl, ap, ◌∙◌, sym, subst, nat_eq, nat_le, nat_lt, arith}
use Rattle.std.specs.Prelude.{is_none, ◌&&◌}
use Rattle.std.specs.Option.{option_map, option_or}
use Rattle.std.proofs.lemmas.Bool.Decides.{nat_tests}
use Rattle.page_ids.specs.Chunks.{chunks_for}
use Rattle.page_ids.specs.declared.ids.PageId.{PageId}
use Rattle.page_ids.specs.declared.config.Config.{Config}
use Rattle.page_ids.specs.declared.limits.TheConstants.{LAST_PLACE, LIMIT, MOST_FIXES, MOST_WATCHES}
use Rattle.trail.specs.declared.event.Call.{Call}
use Rattle.trail.specs.declared.event.Call.TheVariants as call
use Rattle.trail.specs.declared.event.Cause.{Cause}
use Rattle.trail.specs.declared.event.Cause.TheVariants as cause
use Rattle.trail.specs.declared.event.Entry.{Entry}
use Rattle.trail.specs.declared.event.Event.{Event}
use Rattle.trail.specs.declared.event.Held.{Held}
use Rattle.trail.specs.Trails.{AreNumbered, Opening, mark}
use Rattle.trail.specs.History.{home}
use Rattle.trail.specs.Book.{Area, book}
use Rattle.trail.specs.Watches.{other_watches, watch_of}
use Rattle.trail.specs.Calls.{before_call, made, newest_fix, open_fixes}
use Rattle.trail.specs.Needs.{HasPlaces, limit_of, need_of, others_area}
use Rattle.trail.specs.Spaces.{IsNotMissing, sought_page}
use Rattle.trail.specs.Causes.{IsGranted, IsReached, due, frame_cause, full_cause, large_cause, resident_cause, small_cause, unheld_cause, unwatched_cause, watch_cause, withdrawing_cause}
use Rattle.trail.proofs.LookUps.{before_made}
use Rattle.trail.proofs.Judging.{inside_of}
use Rattle.trail_laws.specs.SoFar.{TellSpaces}
use Rattle.trail_laws.specs.Adding.{HasBegun, MayAsk}

-- where the call began
pub began : (first : ℕ) (h base : List Entry) (mine : List Event) (n : ℕ) (pending : List Entry) → AreNumbered first h → HasBegun h base mine n pending → before_call (made n mine) h ≡ base
began first h base mine n pending numbered begun =
    let N : List Entry → Type 0 = λ l. AreNumbered first l in
    ap (λ l. before_call l h) begun.calling.made_are ∙ ap (before_call pending) begun.grown ∙ before_made first pending base (subst N begun.grown numbered)

-- no call's limit is below the common one
limit_least : (c : ℕ) (asked : Call) → LIMIT ≤ limit_of c asked
limit_least c (call.Fix p now) = omega arith
limit_least c (call.Create p now) = omega arith
limit_least c (call.Put p at bytes) = omega arith
limit_least c (call.Read p at len) = omega arith
limit_least c (call.Unfix p) = omega arith
limit_least c (call.Guess p f clock) = omega arith
limit_least c (call.Watch p) = omega arith
limit_least c (call.Occurred p) = omega arith
limit_least c (call.Unwatch p) = omega arith
limit_least c (call.Clean bound) = cases (nat_eq c 0)
  where
    cases : (b : Bool) → LIMIT ≤ cond b LAST_PLACE LIMIT
    cases true = omega arith
    cases false = omega arith
limit_least c call.Check = omega arith
limit_least c (call.Dump pct) = omega arith
limit_least c (call.Resize bytes rounds) = omega arith

-- the places of a call are left, below the limit of every call
pub has_places : (first : ℕ) (config : Config) (h : List Entry) (c n : ℕ) (asked : Call) (need : ℕ) → need_of config h c n asked ≡ Some need → mark first h + need ≤ LIMIT → HasPlaces first config h c n asked
has_places first config h c n asked need is room =
    let P : Option ℕ → Type 0 = λ o. IfSome o (λ m. mark first h + m ≤ limit_of c asked) in
    let least = limit_least c asked in
    subst P (sym is) (omega (arith, room, least))

pub reached : (o : Opening) (pages : ℕ → ℕ) (past : List Event) (h base made : List Entry) (c n : ℕ) (asked : Call) → before_call made h ≡ base → MayAsk o pages base c n asked → TellSpaces pages past → IsReached o past h made c n asked
reached o pages past h base made c n asked is ask told =
    let P : List Entry → Type 0 = λ l. HasPlaces o.first o.config l c n asked in
    record { places = subst P (sym is) ask.places; inside = each (sought_page asked) ask.inside }
  where
    each : (sought : Option PageId) → IfSome sought (λ p. p.page < pages p.space) → IfSome sought (IsNotMissing past)
    each None inside = tt
    each (Some p) inside = inside_of pages past p (told p.space) inside

-- A call is granted where no exact cause is due.
pub granted : (o : Opening) (pages : ℕ → ℕ) (h base : List Entry) (mine : List Event) (c n : ℕ) (asked : Call) → before_call (made n mine) h ≡ base → MayAsk o pages base c n asked → due o h mine c n asked ≡ None
    → (past : List Event) → TellSpaces pages past → IsGranted o past h mine c n asked
granted o pages h base mine c n asked is ask none past told = record { reached = reached o pages past h base (made n mine) c n asked is ask told; none_due = none }

-- The exact causes, each where it isn't so, and where it is.
pub not_full : (mine : List Event) → length (open_fixes mine) < MOST_FIXES → full_cause mine ≡ None
not_full mine few = ap (λ (b : Bool). cond b (Some (cause.HoldFull MOST_FIXES)) None) (below (length (open_fixes mine)) few)
  where
    below : (n : ℕ) → n < 64 → nat_eq n 64 ≡ false
    below n less = grind (arith, nat_tests)

pub is_full : (mine : List Event) → length (open_fixes mine) ≡ MOST_FIXES → full_cause mine ≡ Some (cause.HoldFull MOST_FIXES)
is_full mine full = ap (λ (b : Bool). cond b (Some (cause.HoldFull MOST_FIXES)) None) (at (length (open_fixes mine)) full)
  where
    at : (n : ℕ) → n ≡ 64 → nat_eq n 64 ≡ true
    at n same = grind (arith, nat_tests)

pub is_held : (mine : List Event) (p : PageId) → IsSome (newest_fix (open_fixes mine) p) → unheld_cause mine p ≡ None
is_held mine p = cases (newest_fix (open_fixes mine) p)
  where
    cases : (o : Option Held) → IsSome o → cond (is_none o) (Some cause.Unheld) None ≡ None
    cases None some = absurd (cc)
    cases (Some x) some = refl

pub is_unheld : (mine : List Event) (p : PageId) → newest_fix (open_fixes mine) p ≡ None → unheld_cause mine p ≡ Some cause.Unheld
is_unheld mine p none = ap (λ (o : Option Held). cond (is_none o) (Some cause.Unheld) None) none

pub not_resident : (h : List Entry) (p : PageId) → home h p ≡ None → resident_cause h p ≡ None
not_resident h p none = ap (option_map (λ f. cause.Resident f)) none

pub is_resident : (h : List Entry) (p : PageId) (f : ℕ) → home h p ≡ Some f → resident_cause h p ≡ Some (cause.Resident f)
is_resident h p f is = ap (option_map (λ f. cause.Resident f)) is

pub has_frame : (config : Config) (f : ℕ) → f < config.frames * config.max → frame_cause config f ≡ None
has_frame config f below = ap (λ (b : Bool). cond b (Some (cause.NoFrame (config.frames * config.max))) None) (at (config.frames * config.max) below)
  where
    at : (n : ℕ) → f < n → nat_le n f ≡ false
    at n less = grind (arith, nat_tests)

pub has_no_frame : (config : Config) (f : ℕ) → config.frames * config.max ≤ f → frame_cause config f ≡ Some (cause.NoFrame (config.frames * config.max))
has_no_frame config f beyond = ap (λ (b : Bool). cond b (Some (cause.NoFrame (config.frames * config.max))) None) (at (config.frames * config.max) beyond)
  where
    at : (n : ℕ) → n ≤ f → nat_le n f ≡ true
    at n le = grind (arith, nat_tests)

-- a watch may be set where the page is resident, or others leave room for it
pub may_watch : (h : List Entry) (c : ℕ) (p : PageId) → (home h p ≡ None → other_watches h c p < MOST_WATCHES) → watch_cause h c p ≡ None
may_watch h c p few = cases (home h p) refl
  where
    below : (n : ℕ) → n < 33 → nat_eq n 33 ≡ false
    below n less = grind (arith, nat_tests)

    cases : (o : Option ℕ) → home h p ≡ o → cond (is_none o && nat_eq (other_watches h c p) MOST_WATCHES) (Some (cause.WatchFull MOST_WATCHES)) None ≡ None
    cases None is = ap (λ (b : Bool). cond b (Some (cause.WatchFull MOST_WATCHES)) None) (below (other_watches h c p) (few is))
    cases (Some f) is = refl

pub is_watch_full : (h : List Entry) (c : ℕ) (p : PageId) → home h p ≡ None → other_watches h c p ≡ MOST_WATCHES → watch_cause h c p ≡ Some (cause.WatchFull MOST_WATCHES)
is_watch_full h c p none full =
    ap (λ (o : Option ℕ). cond (is_none o && nat_eq (other_watches h c p) MOST_WATCHES) (Some (cause.WatchFull MOST_WATCHES)) None) none
    ∙ ap (λ (b : Bool). cond b (Some (cause.WatchFull MOST_WATCHES)) None) (at (other_watches h c p) full)
  where
    at : (n : ℕ) → n ≡ 33 → nat_eq n 33 ≡ true
    at n same = grind (arith, nat_tests)

pub is_watched : (h : List Entry) (c : ℕ) (p : PageId) → IsSome (watch_of h c p) → unwatched_cause h c p ≡ None
is_watched h c p = cases (watch_of h c p)
  where
    cases : {A : Type 0} (o : Option A) → IsSome o → cond (is_none o) (Some cause.NoWatch) None ≡ None
    cases None some = absurd (cc)
    cases (Some x) some = refl

pub is_unwatched : (h : List Entry) (c : ℕ) (p : PageId) → watch_of h c p ≡ None → unwatched_cause h c p ≡ Some cause.NoWatch
is_unwatched h c p none = ap (λ o. cond (is_none o) (Some cause.NoWatch) None) none

pub not_small : (bytes : ℕ) → 1 ≤ bytes → small_cause bytes ≡ None
not_small bytes some = ap (λ (b : Bool). cond b (Some cause.TooSmall) None) (at bytes some)
  where
    at : (n : ℕ) → 1 ≤ n → nat_eq n 0 ≡ false
    at n le = grind (arith, nat_tests)

pub not_large : (config : Config) (bytes : ℕ) → chunks_for config bytes ≤ config.max → large_cause config bytes ≡ None
not_large config bytes fits = ap (λ (b : Bool). cond b (Some (cause.TooLarge (chunks_for config bytes) config.max)) None) (at (chunks_for config bytes) config.max fits)
  where
    at : (n m : ℕ) → n ≤ m → nat_lt m n ≡ false
    at n m le = grind (arith, nat_tests)

pub is_large : (config : Config) (bytes : ℕ) → config.max < chunks_for config bytes → large_cause config bytes ≡ Some (cause.TooLarge (chunks_for config bytes) config.max)
is_large config bytes many = ap (λ (b : Bool). cond b (Some (cause.TooLarge (chunks_for config bytes) config.max)) None) (at (chunks_for config bytes) config.max many)
  where
    at : (n m : ℕ) → m < n → nat_lt m n ≡ true
    at n m less = grind (arith, nat_tests)

pub not_withdrawing : (config : Config) (h : List Entry) (c n : ℕ) → others_area (book config h) c n ≡ None → withdrawing_cause config h c n ≡ None
not_withdrawing config h c n none = ap (option_map (λ (a : Area). cause.Withdrawing a.from)) none

pub is_withdrawing : (config : Config) (h : List Entry) (c n : ℕ) (a : Area) → others_area (book config h) c n ≡ Some a → withdrawing_cause config h c n ≡ Some (cause.Withdrawing a.from)
is_withdrawing config h c n a is = ap (option_map (λ (a : Area). cause.Withdrawing a.from)) is

-- No exact cause is due, call by call.
pub either_none : (first behind : Option Cause) → first ≡ None → behind ≡ None → option_or first behind ≡ None
either_none first behind none rest = ap (λ x. option_or x behind) none ∙ rest

pub none_due_create : (o : Opening) (h : List Entry) (mine : List Event) (c n : ℕ) (p : PageId) (now : ℕ) → length (open_fixes mine) < MOST_FIXES → home h p ≡ None → due o h mine c n (call.Create p now) ≡ None
none_due_create o h mine c n p now few absent = either_none (full_cause mine) (resident_cause h p) (not_full mine few) (not_resident h p absent)

pub none_due_guess : (o : Opening) (h : List Entry) (mine : List Event) (c n : ℕ) (p : PageId) (f clock : ℕ) → f < o.config.frames * o.config.max → length (open_fixes mine) < MOST_FIXES
    → due o h mine c n (call.Guess p f clock) ≡ None
none_due_guess o h mine c n p f clock below few = either_none (frame_cause o.config f) (full_cause mine) (has_frame o.config f below) (not_full mine few)

pub none_due_resize : (o : Opening) (h : List Entry) (mine : List Event) (c n bytes rounds : ℕ) → 1 ≤ bytes → chunks_for o.config bytes ≤ o.config.max → others_area (book o.config h) c n ≡ None
    → due o h mine c n (call.Resize bytes rounds) ≡ None
none_due_resize o h mine c n bytes rounds some fits none =
    either_none (small_cause bytes) (option_or (large_cause o.config bytes) (withdrawing_cause o.config h c n)) (not_small bytes some)
    (either_none (large_cause o.config bytes) (withdrawing_cause o.config h c n) (not_large o.config bytes fits) (not_withdrawing o.config h c n none))
