-- Why calls are refused. The state is that before the event; `mine` are the caller's own events, and all events before it, `past`, tell what spaces have.
use Rattle.std.specs.Prelude.{ℕ, Bool, true, false, List, [], ◌∷◌, ◌≡◌, ◌≢◌, ◌==◌, ◌&&◌, ◌≤◌, ◌<◌, ◌+◌, ◌*◌, ◌⊎◌, length, Option, None, Some, IfSome, IsSomeAnd, IsTrue, is_none, nat_le, nat_lt, if◌then◌else◌}
use Rattle.std.specs.List.{AllByRecursion}
use Rattle.std.specs.Option.{IfNone, option_and_then, option_or, option_map}
use Rattle.page_ids.specs.Chunks.{chunks_for}
use Rattle.page_ids.specs.Faults.{Rose}
use Rattle.page_ids.specs.FrameWord.{is_latched, is_resident, clock_of}
use Rattle.page_ids.specs.Same.{same_page}
use Rattle.page_ids.specs.declared.ids.PageId.{PageId}
use Rattle.page_ids.specs.declared.config.Config.{Config}
use Rattle.page_ids.specs.declared.frame_word.Word.{Word}
use Rattle.page_ids.specs.declared.layout.BadPage.{BadPage}
use Rattle.page_ids.specs.declared.layout.BadPage.TheVariants as bad
use Rattle.page_ids.specs.declared.limits.TheConstants.{LAST_LSN, LIMIT, MOST_FIXES, MOST_WATCHES, RECORD_BYTES}
use Rattle.trail.specs.declared.event.Call.{Call}
use Rattle.trail.specs.declared.event.Call.TheVariants as call
use Rattle.trail.specs.declared.event.Cause.{Cause}
use Rattle.trail.specs.declared.event.Cause.TheVariants as cause
use Rattle.trail.specs.declared.event.Kind.{Kind}
use Rattle.trail.specs.declared.event.Kind.TheVariants as kind
use Rattle.trail.specs.declared.event.Note.{Note}
use Rattle.trail.specs.declared.event.Note.TheVariants as note
use Rattle.trail.specs.declared.event.Entry.{Entry}
use Rattle.trail.specs.declared.event.Event.{Event}
use Rattle.trail.specs.declared.event.Event.TheVariants as event
use Rattle.trail.specs.Trails.{Opening, mark, before}
use Rattle.trail.specs.History.{home, disk_faults, log_faults}
use Rattle.trail.specs.Book.{Area, book, area_frames, is_in}
use Rattle.trail.specs.Dirt.{told_end}
use Rattle.trail.specs.Watches.{watch_of, other_watches}
use Rattle.trail.specs.Words.{Hint, hint_of, IsOfFixed}
use Rattle.trail.specs.Calls.{made, before_call, open_fixes, newest_fix, granted_call, noted_call}
use Rattle.trail.specs.Preceding.{is_undo}
use Rattle.trail.specs.Spaces.{IsNotMissing, IsOutside, named_page, sought_page}
use Rattle.trail.specs.Needs.{HasPlaces, need_of, others_area}
use Rattle.trail.specs.Victim.{AreAllFixed}

-- Some causes are exact: a call is not granted where one of its own holds, and is refused with the first of these. The others come only where they hold.
abbrev pub is_exact : Cause → Bool
is_exact (cause.PlacesSpent mark need) = true
is_exact (cause.NoSuchPage pages) = true
is_exact (cause.HoldFull held) = true
is_exact (cause.Resident f) = true
is_exact (cause.AllFixed seen) = false
is_exact (cause.RedoFault before after) = false
is_exact (cause.DiskFault before after) = false
is_exact (cause.BadPage bad) = false
is_exact (cause.LogSpent end) = false
is_exact (cause.WatchFull watches) = true
is_exact cause.NoWatch = true
is_exact cause.TooSmall = true
is_exact (cause.TooLarge chunks max) = true
is_exact (cause.Withdrawing from) = true
is_exact (cause.Undone seen) = false
is_exact (cause.NoFrame frames) = true
is_exact (cause.Stale found) = false
is_exact (cause.OtherPage found) = false
is_exact (cause.Latched found) = false
is_exact (cause.Busy found) = false
is_exact cause.Unheld = true

-- the caller has no open fix of the page
abbrev pub unheld_cause : List Event → PageId → Option Cause
unheld_cause mine p = if is_none (newest_fix (open_fixes mine) p) then Some cause.Unheld else None

-- the caller has as many open fixes as a pass may have in an instance
abbrev pub full_cause : List Event → Option Cause
full_cause mine = if length (open_fixes mine) == MOST_FIXES then Some (cause.HoldFull MOST_FIXES) else None

-- the page has a home
abbrev pub resident_cause : List Entry → PageId → Option Cause
resident_cause h p = option_map (λ f. cause.Resident f) (home h p)

-- the remembered frame is none that there may ever be
abbrev pub frame_cause : Config → ℕ → Option Cause
frame_cause config f = if nat_le (config.frames * config.max) f then Some (cause.NoFrame (config.frames * config.max)) else None

-- the page isn't resident, and as many other watches stand as may
abbrev pub watch_cause : List Entry → ℕ → PageId → Option Cause
watch_cause h c p = if is_none (home h p) && (other_watches h c p == MOST_WATCHES) then Some (cause.WatchFull MOST_WATCHES) else None

-- the caller has no watch for the page
abbrev pub unwatched_cause : List Entry → ℕ → PageId → Option Cause
unwatched_cause h c p = if is_none (watch_of h c p) then Some cause.NoWatch else None

-- no bytes are asked for
abbrev pub small_cause : ℕ → Option Cause
small_cause bytes = if bytes == 0 then Some cause.TooSmall else None

-- more chunks than there may be
abbrev pub large_cause : Config → ℕ → Option Cause
large_cause config bytes = if nat_lt config.max (chunks_for config bytes) then Some (cause.TooLarge (chunks_for config bytes) config.max) else None

-- another call is withdrawing chunks
abbrev pub withdrawing_cause : Config → List Entry → ℕ → ℕ → Option Cause
withdrawing_cause config h c n = option_map (λ (a : Area). cause.Withdrawing a.from) (others_area (book config h) c n)

-- The first exact cause that holds of a call of the caller, of those that such a call may have, but for want of places and of its page.
abbrev pub due : Opening → List Entry → List Event → ℕ → ℕ → Call → Option Cause
due o h mine c n (call.Fix p now) = full_cause mine
due o h mine c n (call.Create p now) = option_or (full_cause mine) (resident_cause h p)
due o h mine c n (call.Put p at bytes) = unheld_cause mine p
due o h mine c n (call.Read p at len) = unheld_cause mine p
due o h mine c n (call.Unfix p) = unheld_cause mine p
due o h mine c n (call.Guess p f clock) = option_or (frame_cause o.config f) (full_cause mine)
due o h mine c n (call.Watch p) = watch_cause h c p
due o h mine c n (call.Occurred p) = unwatched_cause h c p
due o h mine c n (call.Unwatch p) = unwatched_cause h c p
due o h mine c n (call.Clean bound) = None
due o h mine c n call.Check = None
due o h mine c n (call.Dump pct) = None
due o h mine c n (call.Resize bytes rounds) = option_or (small_cause bytes) (option_or (large_cause o.config bytes) (withdrawing_cause o.config h c n))

-- the bytes that a call asks for in all
abbrev pub bytes_asked : Call → Option ℕ
bytes_asked (call.Resize bytes rounds) = Some bytes
bytes_asked _ = None

-- What an exact cause says, as far as the call has what it speaks of: that such a call may have this cause is promised by the calls.
abbrev pub exact_cause : Opening → List Entry → List Event → ℕ → ℕ → Call → Cause → Option Cause
exact_cause o h mine c n asked (cause.HoldFull held) = full_cause mine
exact_cause o h mine c n asked (cause.Resident f) = option_and_then (resident_cause h) (named_page asked)
exact_cause o h mine c n asked (cause.WatchFull watches) = option_and_then (watch_cause h c) (named_page asked)
exact_cause o h mine c n asked cause.NoWatch = option_and_then (unwatched_cause h c) (named_page asked)
exact_cause o h mine c n asked cause.TooSmall = option_and_then small_cause (bytes_asked asked)
exact_cause o h mine c n asked (cause.TooLarge chunks max) = option_and_then (large_cause o.config) (bytes_asked asked)
exact_cause o h mine c n asked (cause.Withdrawing from) = withdrawing_cause o.config h c n
exact_cause o h mine c n asked (cause.NoFrame frames) = option_and_then (λ (hint : Hint). frame_cause o.config hint.frame) (hint_of asked)
exact_cause o h mine c n asked cause.Unheld = option_and_then (unheld_cause mine) (named_page asked)
exact_cause o h mine c n asked why = None

-- the exact cause that a refusal tells: the first one of the call's own, and where none of these holds the one that it tells, if that holds
abbrev pub exact_first : Opening → List Entry → List Event → ℕ → ℕ → Call → Cause → Option Cause
exact_first o h mine c n asked why = option_or (due o h mine c n asked) (exact_cause o h mine c n asked why)

-- the number that was found differs from the page's
abbrev pub IsOther : PageId → BadPage → Type 0
IsOther p (bad.Number found) = found ≢ p.page
IsOther p (bad.Space found) = found ≢ p.space
IsOther p (bad.Torn head tail) = head ≢ tail

-- the bytes of the record that the call would log
abbrev pub record_bytes : Call → Option ℕ
record_bytes (call.Create p now) = Some RECORD_BYTES
record_bytes (call.Put p at bytes) = Some (RECORD_BYTES + length bytes)
record_bytes _ = None

-- a log that ends here, behind every end that was told, has no LSN left for the call's record
pub record IsLogSpent (h : List Entry) (asked : Call) (end : ℕ) : Type 0 where
  pub behind : told_end h ≤ end
  pub beyond : IsSomeAnd (record_bytes asked) (λ n. LAST_LSN < end + n)

-- the rounds that a resize may make
abbrev pub rounds_of : Call → Option ℕ
rounds_of (call.Resize bytes rounds) = Some rounds
rounds_of _ = None

-- the state before a call's undo, where that is its newest entry
abbrev pub before_undo : List Entry → List Entry → List Entry
before_undo [] h = h
before_undo (e ∷ made) h = if is_undo e.kind then before e.place h else h

-- in each round that the call might make a frame of its area was found with a fix
pub record IsUndone (config : Config) (h : List Entry) (asked : Call) (seen : List (ℕ × Word)) : Type 0 where
  pub rounds : rounds_of asked ≡ Some (length seen)
  pub inside : AllByRecursion (λ (x : ℕ × Word). IsTrue (is_in x.0 (area_frames config.frames (book config h)))) seen
  pub fixed : AllByRecursion (λ (x : ℕ × Word). IsOfFixed x.1) seen

-- the word shows no page, or another clock
abbrev pub IsStale : Word → Hint → Type 0
IsStale found hint = (is_resident found ≡ false) ⊎ (clock_of found ≢ hint.clock)

-- what is so where a cause that is not exact comes, to a call that made these entries
abbrev pub Comes : Opening → List Entry → List Entry → Call → Cause → Type 0
Comes o h made asked (cause.AllFixed seen) = IsSomeAnd (named_page asked) (λ p. AreAllFixed o.config h p seen)
Comes o h made asked (cause.RedoFault before after) = Rose before after × (log_faults h ≤ before)
Comes o h made asked (cause.DiskFault before after) = Rose before after × (disk_faults h ≤ before)
Comes o h made asked (cause.BadPage bad) = IsSomeAnd (named_page asked) (λ p. IsOther p bad)
Comes o h made asked (cause.LogSpent end) = IsLogSpent h asked end
Comes o h made asked (cause.Undone seen) = IsUndone o.config (before_undo made h) asked seen
Comes o h made asked (cause.Stale found) = IsSomeAnd (hint_of asked) (IsStale found)
Comes o h made asked (cause.OtherPage found) = IsSomeAnd (hint_of asked) (λ hint. same_page found hint.page ≡ false)
Comes o h made asked (cause.Latched found) = is_latched found ≡ true
Comes o h made asked (cause.Busy found) = is_latched found ≡ true
Comes o h made asked _ = ⊥

-- the page of which a caller has to have a fix for this call
abbrev pub fixed_page : Call → Option PageId
fixed_page (call.Put p at bytes) = Some p
fixed_page (call.Read p at len) = Some p
fixed_page (call.Unfix p) = Some p
fixed_page _ = None

-- The history has not the places that the call needs. That a caller has no fix stands before this cause, and all others behind it.
pub record IsSpent (o : Opening) (h : List Entry) (mine : List Event) (c n : ℕ) (asked : Call) (mark need : ℕ) : Type 0 where
  pub held : IfSome (fixed_page asked) (λ p. unheld_cause mine p ≡ None)
  pub mark_is : mark ≡ Rattle.trail.specs.Trails.mark o.first h
  pub need_is : need_of o.config h c n asked ≡ Some need
  pub beyond : LIMIT < mark + need

-- its places were left before the call's first entry, and no refusal told that its page isn't there
pub record IsReached (o : Opening) (past : List Event) (h : List Entry) (made : List Entry) (c n : ℕ) (asked : Call) : Type 0 where
  pub places : HasPlaces o.first o.config (before_call made h) c n asked
  pub inside : IfSome (sought_page asked) (IsNotMissing past)

-- a cause that is exact is the first one; where the call has none of its own, one comes that is not exact
abbrev pub IsFirst : Bool → Opening → List Entry → List Event → ℕ → ℕ → Call → Cause → Type 0
IsFirst true o h mine c n asked why = exact_first o h mine c n asked why ≡ Some why
IsFirst false o h mine c n asked why = (due o h mine c n asked ≡ None) × Comes o h (made n mine) asked why

-- Places stand before all other causes, and the page's space before the rest. That a caller has no fix is the answer of its worker, before all causes of the pool.
abbrev pub IsRefused : Opening → List Event → List Entry → List Event → ℕ → ℕ → Call → Cause → Type 0
IsRefused o past h mine c n asked (cause.PlacesSpent mark need) = IsSpent o (before_undo (made n mine) h) mine c n asked mark need
IsRefused o past h mine c n asked (cause.NoSuchPage pages) =
    HasPlaces o.first o.config (before_call (made n mine) h) c n asked × IsSomeAnd (named_page asked) (λ p. IsOutside past p pages)
    × IfNone (sought_page asked) (due o h mine c n asked ≡ None)
IsRefused o past h mine c n asked cause.Unheld = exact_first o h mine c n asked cause.Unheld ≡ Some cause.Unheld
IsRefused o past h mine c n asked why = IsReached o past h (made n mine) c n asked × IsFirst (is_exact why) o h mine c n asked why

-- A call that is granted has no exact cause.
pub record IsGranted (o : Opening) (past : List Event) (h : List Entry) (mine : List Event) (c n : ℕ) (asked : Call) : Type 0 where
  pub reached : IsReached o past h (made n mine) c n asked
  pub none_due : due o h mine c n asked ≡ None

abbrev pub IsCausedKind : Opening → List Event → List Entry → List Event → ℕ → ℕ → Kind → Type 0
IsCausedKind o past h mine c n (kind.Refused asked why) = IsRefused o past h mine c n asked why
IsCausedKind o past h mine c n k = IfSome (granted_call k) (IsGranted o past h mine c n)

abbrev pub IsCausedNote : Opening → List Event → List Entry → List Event → ℕ → ℕ → Note → Type 0
IsCausedNote o past h mine c n (note.Refused asked why) = IsRefused o past h mine c n asked why
IsCausedNote o past h mine c n k = IfSome (noted_call k) (IsGranted o past h mine c n)

abbrev pub IsCaused : Opening → List Event → List Entry → List Event → Event → Type 0
IsCaused o past h mine (event.Entry e) = IsCausedKind o past h mine e.caller e.number e.kind
IsCaused o past h mine (event.Receipt r) = IsCausedNote o past h mine r.caller r.number r.note
