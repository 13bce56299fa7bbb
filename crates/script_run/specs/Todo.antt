-- What a thread's answers are, by its commands.
use Rattle.std.specs.Prelude.{ℕ, zero, suc, Bool, true, false, List, [], ◌∷◌, ◌++◌, ◌≡◌, ◌==◌, ◌&&◌, ◌<◌, ◌≤◌, ◌+◌, ◌-◌, ◌⊎◌, MatchOption, drop, length, filter, reverse, take}
use Rattle.page_ids.specs.declared.ids.PageId.{PageId}
use Rattle.trail.specs.declared.event.Call.{Call}
use Rattle.trail.specs.declared.event.Call.TheVariants as call
use Rattle.trail.specs.declared.event.Cause.{Cause}
use Rattle.trail.specs.declared.event.Cause.TheVariants as cause
use Rattle.trail.specs.declared.event.Kind.{Kind}
use Rattle.trail.specs.declared.event.Kind.TheVariants as kind
use Rattle.trail.specs.declared.event.Note.{Note}
use Rattle.trail.specs.declared.event.Note.TheVariants as note
use Rattle.trail.specs.declared.event.Held.{Held}
use Rattle.trail.specs.declared.event.Entry.{Entry}
use Rattle.trail.specs.declared.event.Event.{Event}
use Rattle.trail.specs.declared.event.Event.TheVariants as event
use Rattle.trail.specs.Trails.{entries, caller_of}
use Rattle.trail.specs.Dirt.{dirty, pages_of}
use Rattle.trail.specs.Legal.{written_pages}
use Rattle.trail.specs.Calls.{is_answer, held_by, newest_fix}
use Rattle.script_text.specs.declared.script.Command.{Command}
use Rattle.script_text.specs.declared.script.Command.TheVariants as command

-- whether the command is one call
abbrev pub is_one_call : Command → Bool
is_one_call (command.Scan from last now) = false
is_one_call _ = true

-- the answers of a caller, in order
abbrev pub answers_of : ℕ → List Event → List Event
answers_of caller events = filter (λ e. (caller_of e == caller) && is_answer e) events

abbrev pub IsEntryOf : Kind → Event → Type 0
IsEntryOf k (event.Entry e) = e.kind ≡ k
IsEntryOf k (event.Receipt r) = ⊥

abbrev pub IsReceiptOf : Note → Event → Type 0
IsReceiptOf n (event.Entry e) = ⊥
IsReceiptOf n (event.Receipt r) = r.note ≡ n

-- the event is the refusal of the call, as an entry or as a receipt
abbrev pub IsRefusal : Call → Event → Type 0
IsRefusal c (event.Entry e) = (why : Cause) × (e.kind ≡ kind.Refused c why)
IsRefusal c (event.Receipt r) = (why : Cause) × (r.note ≡ note.Refused c why)

-- The entry stands in the history behind so many others, which are those of its call, and these wrote all pages that were dirty before the call.
pub record IsAllWritten (h : List Entry) (written : ℕ) (e : Entry) : Type 0 where
  pub later : List Entry
  pub before : List Entry
  pub stands : h ≡ later ++ e ∷ before
  pub all : pages_of (dirty (drop written before)) ≡ written_pages (take written before)

abbrev pub WritesAll : List Entry → ℕ → Event → Type 0
WritesAll h written (event.Entry e) = IsAllWritten h written e
WritesAll h written (event.Receipt r) = ⊥

-- the history goes on from that of these events
abbrev pub HistoryGoesOn : List Event → List Entry → Type 0
HistoryGoesOn past h = (later : List Entry) × (h ≡ later ++ entries past)

-- The event answers a command of thread K, whose earlier answers, the newest first, say which fix the command works on. This is the history of its trail:
-- a clean that wrote fewer pages than it may has written all that were dirty before it.
abbrev pub Answers : List Entry → ℕ → Command → List Event → Event → Type 0
Answers h k (command.Fix p now) earlier e = ((frame : ℕ) × (clock : ℕ) × IsEntryOf (kind.Fix p frame clock now) e) ⊎ IsRefusal (call.Fix p now) e
Answers h k (command.Create p now) earlier e = ((frame : ℕ) × (start : ℕ) × (end : ℕ) × IsEntryOf (kind.Create p frame start end now) e) ⊎ IsRefusal (call.Create p now) e
Answers h k (command.Read p at len) earlier e = MatchOption (newest_fix (held_by earlier k) p)
    (IsReceiptOf (note.Refused (call.Read p at len) cause.Unheld) e)
    (λ held. (bytes : List ℕ) × (clock : ℕ) × (length bytes ≡ len) × IsReceiptOf (note.Copied p at bytes clock) e)
Answers h k (command.Put p at bytes) earlier e = MatchOption (newest_fix (held_by earlier k) p)
    (IsReceiptOf (note.Refused (call.Put p at bytes) cause.Unheld) e)
    (λ held. ((start : ℕ) × (end : ℕ) × IsEntryOf (kind.Put p at bytes start end) e) ⊎ IsRefusal (call.Put p at bytes) e)
Answers h k (command.Unfix p) earlier e = MatchOption (newest_fix (held_by earlier k) p)
    (IsReceiptOf (note.Refused (call.Unfix p) cause.Unheld) e)
    (λ held. IsReceiptOf (note.Unfixed p held.frame held.number) e)
Answers h k (command.Clean bound) earlier e = ((written : ℕ) × IsEntryOf (kind.Clean written []) e × (written ≤ bound) × (written < bound → WritesAll h written e)) ⊎ IsRefusal (call.Clean bound) e
Answers h k command.Checkpoint earlier e = (lsn : ℕ) × IsEntryOf (kind.Check lsn) e
Answers h k (command.Scan from last now) earlier e = ⊥

-- A page was fixed by an entry, four bytes of it were read at 38, and just that fix was given back.
pub record IsLookedAt (p : PageId) (now : ℕ) (answers : List Event) : Type 0 where
  pub fix : Entry
  pub frame : ℕ
  pub clock : ℕ
  pub bytes : List ℕ
  pub seen : ℕ
  pub read : Event
  pub unfix : Event
  pub answers_are : answers ≡ event.Entry fix ∷ read ∷ unfix ∷ []
  pub granted : fix.kind ≡ kind.Fix p frame clock now
  pub four : length bytes ≡ 4
  pub copied : IsReceiptOf (note.Copied p 38 bytes seen) read
  pub unfixed : IsReceiptOf (note.Unfixed p frame fix.number) unfix

-- the answers to a page of a scan: it was looked at, or its fix was refused
abbrev pub LooksAt : PageId → ℕ → List Event → Type 0
LooksAt p now answers = IsLookedAt p now answers ⊎ ((e : Event) × (answers ≡ e ∷ []) × IsRefusal (call.Fix p now) e)

-- the answers to so many pages from this one on, in rising order
abbrev pub Scans : PageId → ℕ → ℕ → List Event → Type 0
Scans first now zero answers = answers ≡ []
Scans first now (suc n) answers = (before : List Event) × (here : List Event) × (answers ≡ before ++ here) × Scans first now n before
    × LooksAt (record { space = first.space; page = first.page + n }) now here

-- The answers of one command, where its trail has this history: one, and of a scan those to its pages.
abbrev pub Makes : List Entry → ℕ → Command → List Event → List Event → Type 0
Makes h k (command.Scan from last now) earlier mine = Scans from now (last - from.page + 1) mine
Makes h k c earlier mine = (e : Event) × (mine ≡ e ∷ []) × Answers h k c earlier e

-- at its end a thread gives back what it holds, the newest first
abbrev pub GivesBack : List Held → List Event → Type 0
GivesBack [] [] = Unit {0}
GivesBack [] (e ∷ es) = ⊥
GivesBack (held ∷ more) [] = ⊥
GivesBack (held ∷ more) (e ∷ es) = IsReceiptOf (note.Unfixed held.page held.frame held.number) e × GivesBack more es

-- one command after the other, each with its answers
abbrev pub Todo : List Entry → ℕ → List Command → List Event → List Event → Type 0
Todo h k [] earlier answers = GivesBack (held_by earlier k) answers
Todo h k (c ∷ cs) earlier answers = (mine : List Event) × (rest : List Event) × (answers ≡ mine ++ rest) × Makes h k c earlier mine × Todo h k cs (reverse mine ++ earlier) rest
