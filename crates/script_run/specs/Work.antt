-- A worker beside its desk: the trail so far is lawful, and both keep what it says.
use Rattle.std.specs.Prelude.{ℕ, Bool, List, [], ◌∷◌, ◌++◌, ◌≡◌, ◌==◌, ◌+◌, ◌*◌, ◌<◌, ◌≤◌, Option, None, Some, Result, Ok, Err, ⊤, IfSome, IsSomeAnd, length, filter, reverse, slice_range, true, false, if◌then◌else◌}
use Rattle.std.specs.List.{AllByRecursion}
use Rattle.page_ids.specs.Content.{Content, IsRange}
use Rattle.page_ids.specs.declared.ids.PageId.{PageId}
use Rattle.page_ids.specs.declared.config.Config.{Config}
use Rattle.page_ids.specs.declared.limits.TheConstants.{MOST_FIXES}
use Rattle.page_disk.specs.Disks.{DiskSeen, pages_in}
use Rattle.trail.specs.declared.event.Receipt.{Receipt}
use Rattle.trail.specs.declared.event.Note.{Note}
use Rattle.trail.specs.declared.event.Kind.{Kind}
use Rattle.trail.specs.declared.event.Kind.TheVariants as kind
use Rattle.trail.specs.declared.event.Entry.{Entry}
use Rattle.trail.specs.declared.event.Held.{Held}
use Rattle.trail.specs.declared.event.Event.{Event}
use Rattle.trail.specs.Trails.{mark, entries, receipts, caller_of, Opening, own}
use Rattle.trail.specs.History.{home, disk_faults, log_faults}
use Rattle.trail.specs.Dirt.{log_end}
use Rattle.trail.specs.Book.{book}
use Rattle.trail.specs.Calls.{calls_of, made, is_answer, is_answered, held_by, held_after_kind, held_after_note}
use Rattle.trail.specs.Laws.{AreLawful}
use Rattle.trail.specs.Promises.{ArePromised}
use Rattle.redo_mark.specs.Logs.{Seen, IsLater}
use Rattle.frame_words.specs.Plain.{Plain, seen_of, unheld_at}
use Rattle.frame_words.specs.Rows.{Row}
use Rattle.desk.specs.State.{State}
use Rattle.desk.specs.Steps.{row_in}
use Rattle.desk.specs.Tied.{AreTied}
use Rattle.desk.specs.Base.{Opened}
use Rattle.desk.specs.Behind.{IsBehind}
use Rattle.desk.specs.Changes.{LeavesDesk}
use Rattle.desk.specs.Logged.{IsLogged}
use Rattle.desk.specs.Moments.{IsEmptyHanded}
use Rattle.desk.specs.declared.calls.Granted.{Granted}
use Rattle.desk.specs.declared.calls.FixErr.{FixErr}
use Rattle.desk.specs.declared.calls.FixErr.TheVariants as refusal
use Rattle.desk.specs.declared.calls.CreateErr.{CreateErr}
use Rattle.desk.specs.declared.calls.CreateErr.TheVariants as unmade
use Rattle.script_text.specs.declared.script.Command.{Command}
use Rattle.script_run.specs.Todo.{Answers, HistoryGoesOn, Todo, GivesBack}
use Rattle.script_run.specs.Openings.{Start, opened_of, AreFaultsWithin}

-- a worker: its pass, the number of its next call, the fixes that it holds and its receipts, both with the newest first
pub record Working : Type 0 where
  pub pass : ℕ
  pub next : ℕ
  pub fixed : List Held
  pub account : List Receipt

-- the calls that got the fixes, the newest first, come before this number and before one another
abbrev pub FixesFall : ℕ → List Held → Type 0
FixesFall n [] = Unit {0}
FixesFall n (held ∷ more) = (held.number < n) × FixesFall held.number more

-- each event is this caller's
abbrev pub AreOf : ℕ → List Event → Type 0
AreOf c [] = Unit {0}
AreOf c (e ∷ past) = (caller_of e ≡ c) × AreOf c past

-- the call under way has made its first entry, or not
abbrev pub not_begun : List Entry → ℕ
not_begun [] = 1
not_begun (e ∷ made) = 0

-- What a worker's own events say of its call with this number, which has made these entries: every earlier one has its answer.
pub record IsWorkersCall (mine : List Event) (n : ℕ) (pending : List Entry) : Type 0 where
  pub first : 1 ≤ n
  pub made_are : made n mine ≡ pending
  pub count : calls_of mine + not_begun pending ≡ n
  pub unanswered : is_answered n mine ≡ false
  pub settled : (k : ℕ) → 1 ≤ k → k < n → is_answered k mine ≡ true

-- whether the entry leaves the chunks as they are
abbrev pub leaves_chunks : Kind → Bool
leaves_chunks (kind.Withdraw from) = false
leaves_chunks (kind.Undo from) = false
leaves_chunks (kind.Shrink chunks) = false
leaves_chunks (kind.Grow chunks) = false
leaves_chunks _ = true

abbrev pub AreSteady : List Entry → Type 0
AreSteady h = AllByRecursion (λ (e : Entry). leaves_chunks e.kind ≡ true) h

-- What stands between two calls of a worker, or between two entries of one, which has made these entries; the devices were handed out so.
pub record HasPlayed {D : Type 0} (seen : D → DiskSeen) (o : Opening) (start : Start) (desk : State D) (log : Seen) (worker : Working) (past : List Event) (pending : List Entry) : Type 0 where
  -- the worker is the only caller, so the words that it found are just what the trail says
  pub good : AreLawful o (Some worker.pass) past
  pub promised : ArePromised o start.pages past
  pub entries_are : entries past ≡ desk.history
  pub receipts_are : receipts past ≡ worker.account
  pub first_is : desk.config.first ≡ o.first
  pub config_is : desk.config ≡ o.config
  pub pages_are : (s : ℕ) → start.pages s ≡ pages_in (seen desk.disk).spaces s
  pub logged : IsLogged log desk.history
  pub faults : AreFaultsWithin start (seen desk.disk).faults log.faults desk.history
  pub last_fault : disk_faults desk.history ≤ (seen desk.disk).faults
  pub last_log_fault : log_faults desk.history ≤ log.faults
  pub low_is : start.disk_faults ≤ (seen desk.disk).faults
  pub low_log : start.log_faults ≤ log.faults
  pub calls : IsWorkersCall (own worker.pass past) worker.next pending
  -- no chunks came or went, and between calls no frame is in hand
  pub steady : AreSteady desk.history
  pub empty_handed : pending ≡ [] → (book desk.config desk.history).hands ≡ []
  pub held : held_by past worker.pass ≡ worker.fixed
  pub falling : FixesFall worker.next worker.fixed
  pub alone : AreOf worker.pass past

-- what stands on the disk and in the frames behind a desk
abbrev pub IsBehindIt : {D : Type 0} → (D → DiskSeen) → Opened → State D → Plain → Type 0
IsBehindIt seen o desk frames = IsBehind seen o desk (seen_of frames)

-- Where values are told: each image is its page's value, and the disk has what was last written of each page.
abbrev pub StandsBehind : {D : Type 0} → (D → DiskSeen) → Opening → Start → State D → Plain → Type 0
StandsBehind seen o start desk frames = IfSome o.base (λ base. IsBehindIt seen (opened_of o start base) desk frames)

-- the worker after an answer by an entry
abbrev pub with_answer : Working → Kind → Working
with_answer w k = record w { next = w.next + 1; fixed = held_after_kind w.next k w.fixed }

-- the worker after a receipt at this place that gives no fix back
abbrev pub noted_at : ℕ → Working → Note → Working
noted_at place w n = record { pass = w.pass; next = w.next + 1; fixed = w.fixed; account = record { place = place; caller = w.pass; number = w.next; note = n } ∷ w.account }

-- the receipt of the worker's next call
abbrev pub next_receipt : {D : Type 0} → State D → Working → Note → Receipt
next_receipt desk w n = record { place = mark desk.config.first desk.history; caller = w.pass; number = w.next; note = n }

-- the worker after a receipt
abbrev pub with_note : {D : Type 0} → State D → Working → Note → Working
with_note desk w n = record { pass = w.pass; next = w.next + 1; fixed = held_after_note w.next n w.fixed; account = next_receipt desk w n ∷ w.account }

-- A command was done: events that are no answers came, and then its answer.
pub record Does {D : Type 0} (seen : D → DiskSeen) (o : Opening) (start : Start) (desk : State D) (log : Seen) (worker : Working) (past : List Event) (command : Command) : Type 0 where
  pub answer : Event
  pub before : List Event
  pub quiet : filter is_answer before ≡ []
  pub so_far : HasPlayed seen o start desk log worker (answer ∷ before ++ past) []
  pub answers : (h : List Entry) → HistoryGoesOn (answer ∷ before ++ past) h → Answers h worker.pass command past answer

-- each fix that is held is of a page that is in its frame
abbrev pub AreHoused : List Entry → List Held → Type 0
AreHoused h [] = Unit {0}
AreHoused h (held ∷ more) = (home h held.page ≡ Some held.frame) × AreHoused h more

-- each page's home is a frame of the chunk
abbrev pub AreInChunk : Config → List Entry → Type 0
AreInChunk config h = (p : PageId) (f : ℕ) → home h p ≡ Some f → f < config.frames

-- no two pages are at home in one frame
abbrev pub AreHomesApart : List Entry → Type 0
AreHomesApart h = (p q : PageId) (f : ℕ) → home h p ≡ Some f → home h q ≡ Some f → p ≡ q

-- how many of the fixes are of the frame
abbrev pub fixes_of_frame : ℕ → List Held → ℕ
fixes_of_frame f [] = 0
fixes_of_frame f (held ∷ more) = if held.frame == f then fixes_of_frame f more + 1 else fixes_of_frame f more

-- the frames have just these fixes
abbrev pub AreHeld : List Row → List Held → Type 0
AreHeld rows fixed = (f : ℕ) → f < length rows → (row_in rows f).held ≡ Some (fixes_of_frame f fixed)

-- What the next call of a worker with these fixes needs of desk and frames, and leaves true. A pass may hold 64.
pub record IsWorkerReady {D : Type 0} (seen : D → DiskSeen) (desk : State D) (frames : Plain) (fixed : List Held) : Type 0 where
  pub tied : AreTied seen (seen_of frames) desk
  pub hands : IsEmptyHanded desk
  pub homes : AreInChunk desk.config desk.history
  pub apart : AreHomesApart desk.history
  pub housed : AreHoused desk.history fixed
  pub held : AreHeld frames.rows fixed
  pub few : length fixed ≤ MOST_FIXES

-- the frame is there and not latched, and no frame is visited
pub record IsUndisturbed (frames : Plain) (f : ℕ) : Type 0 where
  pub inside : f < length frames.rows
  pub unvisited : frames.visit ≡ None
  pub unlatched : (row_in frames.rows f).latched ≡ false

-- the image is told, and has this range in its body
abbrev pub HasRange : Option (Option Content) → ℕ → ℕ → Type 0
HasRange image at len = IsSomeAnd image (λ told. IsSomeAnd told (λ c. IsRange (length c.bytes) at len))

-- the bytes are those of the image, at this range
abbrev pub IsRangeOf : Option (Option Content) → ℕ → ℕ → List ℕ → Type 0
IsRangeOf image at len bytes = IsSomeAnd image (λ told. IsSomeAnd told (λ c. bytes ≡ slice_range c.bytes at (at + len)))

-- the answer is a refusal; want of memory is no answer
abbrev pub RefusesFix : Result Granted FixErr → Type 0
RefusesFix (Ok granted) = ⊥
RefusesFix (Err refusal.OutOfMemory) = ⊥
RefusesFix (Err (refusal.NoSuchPage pages)) = ⊤
RefusesFix (Err (refusal.HoldFull held)) = ⊤
RefusesFix (Err (refusal.AllFixed seen)) = ⊤
RefusesFix (Err (refusal.RedoFault before after)) = ⊤
RefusesFix (Err (refusal.DiskFault before after)) = ⊤
RefusesFix (Err (refusal.BadPage bad)) = ⊤

-- and of a create
abbrev pub RefusesCreate : Result Granted CreateErr → Type 0
RefusesCreate (Ok granted) = ⊥
RefusesCreate (Err unmade.OutOfMemory) = ⊥
RefusesCreate (Err (unmade.NoSuchPage pages)) = ⊤
RefusesCreate (Err (unmade.HoldFull held)) = ⊤
RefusesCreate (Err (unmade.Resident frame)) = ⊤
RefusesCreate (Err (unmade.AllFixed seen)) = ⊤
RefusesCreate (Err (unmade.RedoFault before after)) = ⊤
RefusesCreate (Err (unmade.DiskFault before after)) = ⊤
RefusesCreate (Err (unmade.LogSpent end)) = ⊤

-- a fix of the frame was given back
abbrev pub given_at : Plain → ℕ → Plain
given_at p f = record (unheld_at p f) { visit = None }

-- So many commands led from the one desk, its frames, log and worker to the other: what the next one's conditions ask. A clean has the most entries.
pub record Along {D : Type 0} (seen : D → DiskSeen) (n : ℕ) (old new : State D) (before after : Plain) (was is : Seen) (w v : Working) : Type 0 where
  pub left : LeavesDesk seen old new
  pub grown : length new.history ≤ length old.history + 16385 * n
  pub pass : v.pass ≡ w.pass
  pub next : v.next ≡ w.next + n
  pub ready : IsWorkerReady seen old before w.fixed → IsWorkerReady seen new after v.fixed
  pub behind : (o : Opened) → IsBehindIt seen o old before → IsBehindIt seen o new after
  pub log : IsLater was is
  pub known : log_end old.history ≤ was.end → log_end new.history ≤ is.end

-- Of the commands those before the rest were done; the answers so far, the newest first, with any that suit the rest, suit all.
pub record Progress {D : Type 0} (seen : D → DiskSeen) (o : Opening) (start : Start) (desk : State D) (log : Seen) (worker : Working) (past : List Event) (commands rest : List Command) : Type 0 where
  pub more : List Event
  pub done : List Event
  pub so_far : HasPlayed seen o start desk log worker (more ++ past) []
  pub done_are : filter is_answer more ≡ done
  pub held : held_by (more ++ past) worker.pass ≡ held_by (done ++ past) worker.pass
  pub left : (h : List Entry) (tail : List Event) → HistoryGoesOn (more ++ past) h → Todo h worker.pass rest (done ++ past) tail → Todo h worker.pass commands past (reverse done ++ tail)

-- All commands were done, and what is still held has to be given back.
pub record Ending {D : Type 0} (seen : D → DiskSeen) (o : Opening) (start : Start) (desk : State D) (log : Seen) (worker : Working) (past : List Event) (commands : List Command) : Type 0 where
  pub more : List Event
  pub done : List Event
  pub so_far : HasPlayed seen o start desk log worker (more ++ past) []
  pub done_are : filter is_answer more ≡ done
  pub left : (h : List Entry) (tail : List Event) → HistoryGoesOn (more ++ past) h → GivesBack worker.fixed tail → Todo h worker.pass commands past (reverse done ++ tail)

-- The thread is done: its answers are those of its commands, and it holds nothing.
pub record Worked {D : Type 0} (seen : D → DiskSeen) (o : Opening) (start : Start) (desk : State D) (log : Seen) (worker : Working) (past : List Event) (commands : List Command) : Type 0 where
  pub more : List Event
  pub so_far : HasPlayed seen o start desk log worker (more ++ past) []
  pub none : worker.fixed ≡ []
  pub todo : (h : List Entry) → HistoryGoesOn (more ++ past) h → Todo h worker.pass commands past (reverse (filter is_answer more))
