-- What the calls are asked, and what they answer.
use Rattle.std.specs.Prelude.{ℕ, false, ◌≡◌, ◌<◌, ◌≤◌, ◌+◌, ◌⊎◌, List, Result, Ok, Err, None, Some, IfSome, IsSome, length}
use Rattle.page_ids.specs.Content.{IsRange}
use Rattle.page_ids.specs.Size.{page_bytes}
use Rattle.page_ids.specs.declared.ids.PageId.{PageId}
use Rattle.page_ids.specs.declared.layout.BadPage.{BadPage}
use Rattle.page_ids.specs.declared.limits.TheConstants.{LAST_LSN, MOST_FIXES, RECORD_BYTES}
use Rattle.page_disk.specs.Disks.{DiskSeen, pages_in, IsInside}
use Rattle.redo_mark.specs.declared.record.Span.{Span}
use Rattle.trail.specs.declared.event.Call.{Call}
use Rattle.trail.specs.declared.event.Cause.{Cause}
use Rattle.trail.specs.Book.{book, frame_in_turn}
use Rattle.trail.specs.Calls.{newest_fix}
use Rattle.trail.specs.Dirt.{is_dirty, log_end}
use Rattle.trail.specs.History.{home, value}
use Rattle.frame_words.specs.Rows.{Row}
use Rattle.frame_words.specs.Seen.{FramesSeen}
use Rattle.desk.specs.Base.{Opened}
use Rattle.desk.specs.Behind.{IsBehind}
use Rattle.desk.specs.Changes.{IsPutBy, IsPutRefusal}
use Rattle.desk.specs.Creating.{IsCreatedBy, IsCreateRefusal, LeavesLog}
use Rattle.desk.specs.Fixing.{IsGrantedBy, IsFixRefusal, IsUnlogged, NeedsNoVictim}
use Rattle.instance_lists.specs.Ledger.{IsVacant}
use Rattle.desk.specs.Loads.{MayFix, MayRefuseWordless}
use Rattle.desk.specs.Logged.{create_change, put_change}
use Rattle.desk.specs.Moments.{IsEmptyHanded, Moment, UsesLog, IsAsLong, Adds, IsSameDevice}
use Rattle.desk.specs.State.{State}
use Rattle.desk.specs.Steps.{RefusesCall, IsLoaded}
use Rattle.desk.specs.Tied.{HasTurn, IsOwn}
use Rattle.desk.specs.Victims.{AsksFor, IsHad, IsUnhad, IsUnforced, LeavesTurn, MustCover}
use Rattle.instance_lists.specs.Walk.{AreOrderly}
use Rattle.desk.specs.declared.calls.Caller.{Caller}
use Rattle.desk.specs.declared.calls.CreateErr.{CreateErr}
use Rattle.desk.specs.declared.calls.FixErr.{FixErr}
use Rattle.desk.specs.declared.calls.FixErr.TheVariants as refusal
use Rattle.desk.specs.declared.calls.FrameErr.{FrameErr}
use Rattle.desk.specs.declared.calls.Granted.{Granted}
use Rattle.desk.specs.declared.calls.PutDone.{PutDone}
use Rattle.desk.specs.declared.calls.PutErr.{PutErr}

-- what a public call is asked: the page is one of the instance, and the caller holds so many fixes
pub record IsAsked {D : Type 0} (frames : FramesSeen) (desk : State D) (held : ℕ) (p : PageId) : Type 0 where
  pub own : IsOwn frames desk p
  pub held_is : IfSome frames.opened (λ opened. (length opened ≡ held) × (held ≤ MOST_FIXES))

-- the call of this caller may be refused for this cause
pub record IsRefusable {D : Type 0} (frames : FramesSeen) (desk : State D) (by : Caller) (p : PageId) (asked : Call) (why : Cause) : Type 0 where
  pub turn : HasTurn frames by
  pub own : IsOwn frames desk p
  pub for_page : AsksFor p asked
  pub may : MayRefuseWordless frames asked why

-- the refusal was appended, and nothing else happened
pub record Refuses {D : Type 0} (old new : State D) (rows now : List Row) (by : Caller) (asked : Call) (why : Cause) : Type 0 where
  pub entry : RefusesCall old new by asked why
  pub unmoved : now ≡ rows
  pub disk : new.disk ≡ old.disk

-- the page may come into a frame: it lies in its space, has none, and the caller may fix it
pub record MayTake {D : Type 0} (seen : D → DiskSeen) (frames : FramesSeen) (desk : State D) (by : Caller) (p : PageId) : Type 0 where
  pub caller : MayFix frames desk by p
  pub absent : home desk.history p ≡ None
  pub inside : IsInside (seen desk.disk).spaces p
  pub clean : is_dirty desk.history p ≡ false

-- no frame is free: each one is a page's home, and the lists say so
pub record IsOccupied {D : Type 0} (desk : State D) : Type 0 where
  pub orderly : AreOrderly desk.config desk.history
  pub none_free : frame_in_turn (book desk.config desk.history) ≡ None
  pub full : (f : ℕ) → f < desk.config.frames → (p : PageId) × (home desk.history p ≡ Some f)

-- the frame is the next one, in which no page is at home
pub record IsNextFrame {D : Type 0} (desk : State D) (f : ℕ) : Type 0 where
  pub front : frame_in_turn (book desk.config desk.history) ≡ Some f
  pub below : f < desk.config.frames
  pub vacant : IsVacant desk.history f

-- What stands behind the search of a frame for the page, whether one was had or not.
pub record HasSought {D : Type 0} (seen : D → DiskSeen) (m n : Moment D) (p : PageId) : Type 0 where
  pub absent : home n.desk.history p ≡ None
  -- what is told of the page, as only the victim was written
  pub page_told : (seen n.desk.disk).told p ≡ (seen m.desk.disk).told p
  -- the log was used only where it had to be made durable
  pub free : IsSome (frame_in_turn (book m.desk.config m.desk.history)) → n.log ≡ m.log
  pub covered : (n.log ≡ m.log) ⊎ MustCover m.desk m.frames.rows m.log.seen.durable
  pub log : UsesLog m n
  pub as_long : IsAsLong m.log n.log
  pub behind : (o : Opened) → IsBehind seen o m.desk m.frames → IsBehind seen o n.desk n.frames

pub record Had {D : Type 0} (seen : D → DiskSeen) (m n : Moment D) (by : Caller) (p : PageId) (f : ℕ) : Type 0 where
  pub sought : HasSought seen m n p
  pub had : IsHad m.desk n.desk m.frames.rows n.frames.rows by f
  pub next : IsNextFrame n.desk f
  pub turn : LeavesTurn m.frames n.frames

pub record Unhad {D : Type 0} (seen : D → DiskSeen) (m n : Moment D) (by : Caller) (p : PageId) (asked : Call) (e : FrameErr) : Type 0 where
  pub sought : HasSought seen m n p
  pub refused : IsUnhad m.desk n.desk m.frames.rows by p asked (seen m.desk.disk).faults (seen n.desk.disk).faults m.log.seen.durable m.log.seen.faults n.log.seen.faults e
  pub unmoved : n.frames.rows ≡ m.frames.rows
  pub unforced : IsUnforced m.log n.log e
  pub hands : IsEmptyHanded n.desk

-- A frame for the page was had, or none was.
abbrev pub HasFrameFor : {D : Type 0} → (D → DiskSeen) → Moment D → Moment D → Caller → PageId → Call → Result ℕ FrameErr → Type 0
HasFrameFor seen m n by p asked (Ok f) = Had seen m n by p f
HasFrameFor seen m n by p asked (Err e) = Unhad seen m n by p asked e

-- the page was read into the frame, and the caller may go on
pub record Loads {D : Type 0} (seen : D → DiskSeen) (old new : State D) (s t : FramesSeen) (by : Caller) (p : PageId) (f : ℕ) : Type 0 where
  pub loaded : IsLoaded seen old new s.rows t.rows by p f
  pub caller : MayFix t new by p

pub record Fixed {D : Type 0} (seen : D → DiskSeen) (m n : Moment D) (by : Caller) (held : ℕ) (p : PageId) (now : ℕ) (g : Granted) : Type 0 where
  pub granted : IsGrantedBy seen m.desk n.desk m.frames.rows n.frames.rows by p now g
  pub inside : p.page < pages_in (seen m.desk.disk).spaces p.space
  pub few : held < MOST_FIXES
  pub log : UsesLog m n
  pub as_long : IsAsLong m.log n.log
  -- the log is as it was where no page has to leave, and where it was durable up to the newest change of the page that has to
  pub idle : NeedsNoVictim seen m.desk held p → n.log ≡ m.log
  pub covered : (n.log ≡ m.log) ⊎ MustCover m.desk m.frames.rows m.log.seen.durable
  pub valued : (o : Opened) → IsBehind seen o m.desk m.frames → IsSome (value o.size o.base m.desk.history p)

pub record Unfixed {D : Type 0} (seen : D → DiskSeen) (m n : Moment D) (by : Caller) (held : ℕ) (p : PageId) (now : ℕ) (e : FixErr) : Type 0 where
  pub refused : IsFixRefusal seen m.desk n.desk m.frames.rows n.frames.rows by held p now m.log.seen.durable m.log.seen.faults n.log.seen.faults e
  pub log : UsesLog m n
  pub as_long : IsAsLong m.log n.log
  pub idle : NeedsNoVictim seen m.desk held p → n.log ≡ m.log
  pub covered : (n.log ≡ m.log) ⊎ MustCover m.desk m.frames.rows m.log.seen.durable
  pub unused : IsUnlogged m.log n.log e
  -- a page whose bytes are none of its id has no value
  pub unsound : (o : Opened) (bad : BadPage) → IsBehind seen o m.desk m.frames → e ≡ refusal.BadPage bad → value o.size o.base m.desk.history p ≡ None

-- A fix was granted, or refused.
abbrev pub Fixes : {D : Type 0} → (D → DiskSeen) → Moment D → Moment D → Caller → ℕ → PageId → ℕ → Result Granted FixErr → Type 0
Fixes seen m n by held p now (Ok g) = Fixed seen m n by held p now g
Fixes seen m n by held p now (Err e) = Unfixed seen m n by held p now e

-- the record of a create stands behind all of the history's
pub record IsCreateSpan {D : Type 0} (desk : State D) (span : Span) : Type 0 where
  pub start : log_end desk.history ≤ span.start
  pub end : span.end ≡ span.start + RECORD_BYTES

pub record Created {D : Type 0} (seen : D → DiskSeen) (m n : Moment D) (by : Caller) (held : ℕ) (p : PageId) (now : ℕ) (g : Granted) : Type 0 where
  pub made : IsCreatedBy m.desk n.desk m.frames.rows n.frames.rows by p now m.log.seen.end n.log.seen.end g
  pub inside : p.page < pages_in (seen m.desk.disk).spaces p.space
  pub few : held < MOST_FIXES
  pub fits : m.log.seen.end + RECORD_BYTES ≤ LAST_LSN
  pub log : UsesLog m n
  pub logged : Adds m.log n.log (create_change p) made.start
  pub covered : IsSameDevice m.log n.log ⊎ MustCover m.desk m.frames.rows m.log.seen.durable

pub record Uncreated {D : Type 0} (seen : D → DiskSeen) (m n : Moment D) (by : Caller) (held : ℕ) (p : PageId) (now : ℕ) (e : CreateErr) : Type 0 where
  pub refused : IsCreateRefusal seen m.desk n.desk m.frames.rows n.frames.rows by held p now m.log.seen.durable m.log.seen.end n.log.seen.end m.log.seen.faults n.log.seen.faults e
  pub unused : LeavesLog m.log n.log e
  pub log : UsesLog m n
  pub as_long : IsAsLong m.log n.log
  pub covered : IsSameDevice m.log n.log ⊎ MustCover m.desk m.frames.rows m.log.seen.durable

-- A page was made, or wasn't.
abbrev pub Creates : {D : Type 0} → (D → DiskSeen) → Moment D → Moment D → Caller → ℕ → PageId → ℕ → Result Granted CreateErr → Type 0
Creates seen m n by held p now (Ok g) = Created seen m n by held p now g
Creates seen m n by held p now (Err e) = Uncreated seen m n by held p now e

-- what a put is asked: the page is one of the instance, is resident, and the caller has a fix of it open; the bytes fit its body
pub record IsPutAsked {D : Type 0} (frames : FramesSeen) (desk : State D) (p : PageId) (at count : ℕ) : Type 0 where
  pub own : IsOwn frames desk p
  pub opened : IfSome frames.opened (λ x. IsSome (newest_fix x p))
  pub resident : IsSome (home desk.history p)
  pub range : IsRange (page_bytes desk.config.page) at count

-- the bytes were changed, and just the record of that was put into the log; no device was used
pub record Changed {D : Type 0} (seen : D → DiskSeen) (m n : Moment D) (by : Caller) (p : PageId) (at : ℕ) (bytes : List ℕ) (d : PutDone) : Type 0 where
  pub done : IsPutBy m.desk n.desk m.frames.rows n.frames.rows by p at bytes d
  pub logged : Adds m.log n.log (put_change p at bytes) done.start
  pub span : (m.log.seen.end + RECORD_BYTES + length bytes ≤ d.lsn) × (d.lsn ≤ n.log.seen.end)
  pub fits : m.log.seen.end + RECORD_BYTES + length bytes ≤ LAST_LSN
  pub device : IsSameDevice m.log n.log
  pub behind : (o : Opened) → IsBehind seen o m.desk m.frames → IsBehind seen o n.desk n.frames

pub record Unchanged {D : Type 0} (seen : D → DiskSeen) (m n : Moment D) (by : Caller) (p : PageId) (at : ℕ) (bytes : List ℕ) (e : PutErr) : Type 0 where
  pub refused : IsPutRefusal m.desk n.desk by p at bytes m.log.seen.end n.log.seen.end e
  pub unmoved : n.frames.rows ≡ m.frames.rows
  pub unlogged : n.log ≡ m.log
  pub behind : (o : Opened) → IsBehind seen o m.desk m.frames → IsBehind seen o n.desk n.frames

-- Bytes of a page were changed, or weren't.
abbrev pub Puts : {D : Type 0} → (D → DiskSeen) → Moment D → Moment D → Caller → PageId → ℕ → List ℕ → Result PutDone PutErr → Type 0
Puts seen m n by p at bytes (Ok d) = Changed seen m n by p at bytes d
Puts seen m n by p at bytes (Err e) = Unchanged seen m n by p at bytes e
