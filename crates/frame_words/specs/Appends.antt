-- What an entry says to the frames: which frames it needs and how, which pages and words it names, and what it makes of what is seen.
use Rattle.std.specs.Prelude.{ℕ, Bool, true, false, List, [], ◌∷◌, ◌≡◌, ◌+◌, ◌<◌, ⊤, Option, None, Some, IsSome, IsSomeAnd, length, slice_set, slice_index_or, if◌then◌else◌}
use Rattle.std.specs.Option.{option_map}
use Rattle.page_ids.specs.declared.frame_word.Word.{Word}
use Rattle.page_ids.specs.declared.ids.PageId.{PageId}
use Rattle.page_ids.specs.declared.limits.TheConstants.{MOST_FIXES}
use Rattle.trail.specs.Kinds.{kind_answers}
use Rattle.trail.specs.Calls.{held_after_kind, newest_fix}
use Rattle.trail.specs.History.{home}
use Rattle.trail.specs.declared.event.Call.{Call}
use Rattle.trail.specs.declared.event.Call.TheVariants as call
use Rattle.trail.specs.declared.event.Cause.{Cause}
use Rattle.trail.specs.declared.event.Cause.TheVariants as cause
use Rattle.trail.specs.declared.event.Entry.{Entry}
use Rattle.trail.specs.declared.event.Held.{Held}
use Rattle.trail.specs.declared.event.Kind.{Kind}
use Rattle.trail.specs.declared.event.Kind.TheVariants as kind
use Rattle.frame_words.specs.Rows.{Row, held_row, new_row}
use Rattle.frame_words.specs.Seen.{FramesSeen, History, Turn, row_at}

-- the frame whose visit becomes a held fix
abbrev pub fixed_frame : Kind → Option ℕ
fixed_frame (kind.Load p f) = None
fixed_frame (kind.Fix p f clock now) = Some f
fixed_frame (kind.Create p f start end now) = None
fixed_frame (kind.Put p at bytes start end) = None
fixed_frame (kind.Evict p f passed) = None
fixed_frame (kind.Write p lsn upto) = None
fixed_frame (kind.Move p from to) = None
fixed_frame (kind.Withdraw from) = None
fixed_frame (kind.Undo from) = None
fixed_frame (kind.Shrink chunks) = None
fixed_frame (kind.Grow chunks) = None
fixed_frame (kind.Resize bytes chunks) = None
fixed_frame (kind.Clean written skipped) = None
fixed_frame (kind.Check lsn) = None
fixed_frame (kind.WatchSet p) = None
fixed_frame (kind.WatchAt p f) = None
fixed_frame (kind.Occurred p arrived) = None
fixed_frame (kind.Unwatch p) = None
fixed_frame (kind.Dump pct ids) = None
fixed_frame (kind.Refused asked why) = None

-- the frame whose visit will be a held fix at once: that of a create
abbrev pub owed_after : Kind → Option ℕ → Option ℕ
owed_after (kind.Load p f) before = before
owed_after (kind.Fix p f clock now) before = before
owed_after (kind.Create p f start end now) before = Some f
owed_after (kind.Put p at bytes start end) before = before
owed_after (kind.Evict p f passed) before = before
owed_after (kind.Write p lsn upto) before = before
owed_after (kind.Move p from to) before = before
owed_after (kind.Withdraw from) before = before
owed_after (kind.Undo from) before = before
owed_after (kind.Shrink chunks) before = before
owed_after (kind.Grow chunks) before = before
owed_after (kind.Resize bytes chunks) before = before
owed_after (kind.Clean written skipped) before = before
owed_after (kind.Check lsn) before = before
owed_after (kind.WatchSet p) before = before
owed_after (kind.WatchAt p f) before = before
owed_after (kind.Occurred p arrived) before = before
owed_after (kind.Unwatch p) before = before
owed_after (kind.Dump pct ids) before = before
owed_after (kind.Refused asked why) before = before

abbrev pub rows_after : Option ℕ → List Row → List Row
rows_after None rows = rows
rows_after (Some f) rows = slice_set rows f (held_row (slice_index_or rows f new_row))

abbrev pub visit_after : Option ℕ → Option ℕ → Option ℕ
visit_after None visit = visit
visit_after (Some f) visit = None

-- an answer ends the call under way
abbrev pub turn_after : Kind → Turn → Turn
turn_after k t = if kind_answers k then record t { number = t.number + 1 } else t

abbrev pub found_after : Kind → List (ℕ × Word) → List (ℕ × Word)
found_after k found = if kind_answers k then [] else found

abbrev pub extended : Entry → History → History
extended e h = record h { entries = e ∷ h.entries }

-- the entry was appended
abbrev pub appended : FramesSeen → Entry → FramesSeen
appended s e = record s {
  rows = rows_after (fixed_frame e.kind) s.rows;
  visit = visit_after (fixed_frame e.kind) s.visit;
  owed = owed_after e.kind s.owed;
  history = option_map (extended e) s.history;
  turn = option_map (turn_after e.kind) s.turn;
  opened = option_map (held_after_kind e.number e.kind) s.opened;
  found = option_map (found_after e.kind) s.found;
}

-- a frame that isn't resident: claimed, free, or in hand
pub record IsAway (s : FramesSeen) (f : ℕ) : Type 0 where
  pub inside : f < length s.rows
  pub away : (row_at s f).resident ≡ false

-- a frame with a page that this holder visits
pub record IsVisited (s : FramesSeen) (f : ℕ) : Type 0 where
  pub inside : f < length s.rows
  pub resident : (row_at s f).resident ≡ true
  pub visit : s.visit ≡ Some f

-- what each entry needs of its frames
abbrev pub AreReady : FramesSeen → Kind → Type 0
AreReady s (kind.Load p f) = IsAway s f
AreReady s (kind.Fix p f clock now) = IsVisited s f
AreReady s (kind.Create p f start end now) = IsAway s f
AreReady s (kind.Put p at bytes start end) = ⊤
AreReady s (kind.Evict p f passed) = IsAway s f
AreReady s (kind.Write p lsn upto) = ⊤
AreReady s (kind.Move p from to) = IsAway s from × IsAway s to
AreReady s (kind.Withdraw from) = ⊤
AreReady s (kind.Undo from) = ⊤
AreReady s (kind.Shrink chunks) = ⊤
AreReady s (kind.Grow chunks) = ⊤
AreReady s (kind.Resize bytes chunks) = ⊤
AreReady s (kind.Clean written skipped) = ⊤
AreReady s (kind.Check lsn) = ⊤
AreReady s (kind.WatchSet p) = ⊤
AreReady s (kind.WatchAt p f) = ⊤
AreReady s (kind.Occurred p arrived) = ⊤
AreReady s (kind.Unwatch p) = ⊤
AreReady s (kind.Dump pct ids) = ⊤
AreReady s (kind.Refused asked why) = ⊤

-- the frame is no page's home
abbrev pub IsNoHome : List Entry → ℕ → Type 0
IsNoHome h f = (p : PageId) → home h p ≡ Some f → ⊥

-- a page with no home gets one in a frame that is none
pub record IsNewHome (h : List Entry) (p : PageId) (f : ℕ) : Type 0 where
  pub absent : home h p ≡ None
  pub vacant : IsNoHome h f

-- a page goes from its home to a frame that is none
pub record IsNextHome (h : List Entry) (p : PageId) (from to : ℕ) : Type 0 where
  pub here : home h p ≡ Some from
  pub vacant : IsNoHome h to

-- the frame is latched by this holder, and its image is lifted
pub record IsInHand (s : FramesSeen) (f : ℕ) : Type 0 where
  pub latched : (row_at s f).latched ≡ true
  pub lifted : (row_at s f).image ≡ None

-- what each entry needs of the homes that the history gives
abbrev pub FitsHomes : FramesSeen → List Entry → Kind → Type 0
FitsHomes s h (kind.Load p f) = IsNewHome h p f
FitsHomes s h (kind.Fix p f clock now) = home h p ≡ Some f
FitsHomes s h (kind.Create p f start end now) = IsNewHome h p f
FitsHomes s h (kind.Put p at bytes start end) = IsSomeAnd (home h p) (λ f. IsInHand s f)
FitsHomes s h (kind.Evict p f passed) = home h p ≡ Some f
FitsHomes s h (kind.Write p lsn upto) = ⊤
FitsHomes s h (kind.Move p from to) = IsNextHome h p from to
FitsHomes s h (kind.Withdraw from) = ⊤
FitsHomes s h (kind.Undo from) = ⊤
FitsHomes s h (kind.Shrink chunks) = ⊤
FitsHomes s h (kind.Grow chunks) = ⊤
FitsHomes s h (kind.Resize bytes chunks) = ⊤
FitsHomes s h (kind.Clean written skipped) = ⊤
FitsHomes s h (kind.Check lsn) = ⊤
FitsHomes s h (kind.WatchSet p) = ⊤
FitsHomes s h (kind.WatchAt p f) = ⊤
FitsHomes s h (kind.Occurred p arrived) = ⊤
FitsHomes s h (kind.Unwatch p) = ⊤
FitsHomes s h (kind.Dump pct ids) = ⊤
FitsHomes s h (kind.Refused asked why) = ⊤

-- the pages that a call names
abbrev pub call_pages : Call → List PageId
call_pages (call.Fix p now) = p ∷ []
call_pages (call.Create p now) = p ∷ []
call_pages (call.Put p at bytes) = p ∷ []
call_pages (call.Read p at len) = p ∷ []
call_pages (call.Unfix p) = p ∷ []
call_pages (call.Guess p f clock) = p ∷ []
call_pages (call.Watch p) = p ∷ []
call_pages (call.Occurred p) = p ∷ []
call_pages (call.Unwatch p) = p ∷ []
call_pages (call.Clean bound) = []
call_pages call.Check = []
call_pages (call.Dump pct) = []
call_pages (call.Resize bytes rounds) = []

-- the pages that an entry names
abbrev pub pages_named : Kind → List PageId
pages_named (kind.Load p f) = p ∷ []
pages_named (kind.Fix p f clock now) = p ∷ []
pages_named (kind.Create p f start end now) = p ∷ []
pages_named (kind.Put p at bytes start end) = p ∷ []
pages_named (kind.Evict p f passed) = p ∷ []
pages_named (kind.Write p lsn upto) = p ∷ []
pages_named (kind.Move p from to) = p ∷ []
pages_named (kind.Withdraw from) = []
pages_named (kind.Undo from) = []
pages_named (kind.Shrink chunks) = []
pages_named (kind.Grow chunks) = []
pages_named (kind.Resize bytes chunks) = []
pages_named (kind.Clean written skipped) = []
pages_named (kind.Check lsn) = []
pages_named (kind.WatchSet p) = p ∷ []
pages_named (kind.WatchAt p f) = p ∷ []
pages_named (kind.Occurred p arrived) = p ∷ []
pages_named (kind.Unwatch p) = p ∷ []
pages_named (kind.Dump pct ids) = ids
pages_named (kind.Refused asked why) = call_pages asked

-- whether a grant of the call is a fix
abbrev pub takes_fix : Call → Bool
takes_fix (call.Fix p now) = true
takes_fix (call.Create p now) = true
takes_fix (call.Put p at bytes) = false
takes_fix (call.Read p at len) = false
takes_fix (call.Unfix p) = false
takes_fix (call.Guess p f clock) = false
takes_fix (call.Watch p) = false
takes_fix (call.Occurred p) = false
takes_fix (call.Unwatch p) = false
takes_fix (call.Clean bound) = false
takes_fix call.Check = false
takes_fix (call.Dump pct) = false
takes_fix (call.Resize bytes rounds) = false

-- A refusal behind `HoldFull`, in the order of the causes, needs room for one more fix.
abbrev pub FitsRefusal : List Held → Call → Cause → Type 0
FitsRefusal opened asked (cause.PlacesSpent mark need) = ⊤
FitsRefusal opened asked (cause.NoSuchPage pages) = ⊤
FitsRefusal opened asked (cause.HoldFull held) = length opened ≡ MOST_FIXES
FitsRefusal opened asked (cause.Resident f) = takes_fix asked ≡ true → length opened < MOST_FIXES
FitsRefusal opened asked (cause.AllFixed seen) = takes_fix asked ≡ true → length opened < MOST_FIXES
FitsRefusal opened asked (cause.RedoFault before after) = takes_fix asked ≡ true → length opened < MOST_FIXES
FitsRefusal opened asked (cause.DiskFault before after) = takes_fix asked ≡ true → length opened < MOST_FIXES
FitsRefusal opened asked (cause.BadPage bad) = takes_fix asked ≡ true → length opened < MOST_FIXES
FitsRefusal opened asked (cause.LogSpent end) = takes_fix asked ≡ true → length opened < MOST_FIXES
FitsRefusal opened asked (cause.WatchFull watches) = ⊤
FitsRefusal opened asked cause.NoWatch = ⊤
FitsRefusal opened asked cause.TooSmall = ⊤
FitsRefusal opened asked (cause.TooLarge chunks max) = ⊤
FitsRefusal opened asked (cause.Withdrawing from) = ⊤
FitsRefusal opened asked (cause.Undone seen) = ⊤
FitsRefusal opened asked (cause.NoFrame frames) = ⊤
FitsRefusal opened asked (cause.Stale found) = ⊤
FitsRefusal opened asked (cause.OtherPage found) = ⊤
FitsRefusal opened asked (cause.Latched found) = ⊤
FitsRefusal opened asked (cause.Busy found) = ⊤
FitsRefusal opened asked cause.Unheld = ⊤

-- what each entry needs of the open fixes of the pass that has the turn
abbrev pub FitsOpen : List Held → Kind → Type 0
FitsOpen opened (kind.Load p f) = ⊤
FitsOpen opened (kind.Fix p f clock now) = length opened < MOST_FIXES
FitsOpen opened (kind.Create p f start end now) = length opened < MOST_FIXES
FitsOpen opened (kind.Put p at bytes start end) = IsSome (newest_fix opened p)
FitsOpen opened (kind.Evict p f passed) = ⊤
FitsOpen opened (kind.Write p lsn upto) = ⊤
FitsOpen opened (kind.Move p from to) = ⊤
FitsOpen opened (kind.Withdraw from) = ⊤
FitsOpen opened (kind.Undo from) = ⊤
FitsOpen opened (kind.Shrink chunks) = ⊤
FitsOpen opened (kind.Grow chunks) = ⊤
FitsOpen opened (kind.Resize bytes chunks) = ⊤
FitsOpen opened (kind.Clean written skipped) = ⊤
FitsOpen opened (kind.Check lsn) = ⊤
FitsOpen opened (kind.WatchSet p) = ⊤
FitsOpen opened (kind.WatchAt p f) = ⊤
FitsOpen opened (kind.Occurred p arrived) = ⊤
FitsOpen opened (kind.Unwatch p) = ⊤
FitsOpen opened (kind.Dump pct ids) = ⊤
FitsOpen opened (kind.Refused asked why) = FitsRefusal opened asked why
