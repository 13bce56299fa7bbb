-- What a run answers, by its status.
use Rattle.std.specs.Prelude.{ℕ, Bool, true, false, List, [], ◌∷◌, ◌++◌, ◌≡◌, ◌+◌, ◌<◌, ◌≤◌, ◌^◌, ◌⊎◌, Option, None, Some, IsSome, IsSomeAnd, IfSome, IsTrue, take, length, ⊤, reverse, unwrap_or}
use Rattle.std.specs.List.{list_any}
use Rattle.page_ids.specs.Content.{Content}
use Rattle.page_ids.specs.Faults.{Rose}
use Rattle.page_ids.specs.Layout.{IsPage}
use Rattle.page_ids.specs.Size.{page_bytes}
use Rattle.page_ids.specs.declared.ids.PageId.{PageId}
use Rattle.page_ids.specs.declared.limits.TheConstants.{LAST_LSN}
use Rattle.page_disk.specs.Disks.{DiskSeen, pages_in}
use Rattle.page_disk.specs.Shelves.{Asked, OfferedDisk, OfferedLog}
use Rattle.page_disk.specs.declared.shelf.FaultAt.{FaultAt}
use Rattle.trail.specs.declared.event.Call.TheVariants as call
use Rattle.trail.specs.declared.event.Cause.{Cause}
use Rattle.trail.specs.declared.event.Cause.TheVariants as cause
use Rattle.trail.specs.declared.event.Kind.{Kind}
use Rattle.trail.specs.declared.event.Kind.TheVariants as kind
use Rattle.trail.specs.declared.event.Note.{Note}
use Rattle.trail.specs.declared.event.Note.TheVariants as note
use Rattle.trail.specs.declared.event.Entry.{Entry}
use Rattle.trail.specs.declared.event.Event.{Event}
use Rattle.trail.specs.declared.event.Event.TheVariants as event
use Rattle.trail.specs.Trails.{Events, entries, caller_of, Opening}
use Rattle.trail.specs.History.{value}
use Rattle.trail.specs.Dirt.{dirty, is_dirty, spent_end}
use Rattle.trail.specs.Kinds.{change_in}
use Rattle.trail.specs.Saved.{AreDurable, is_written, saved}
use Rattle.trail.specs.Laws.{IsLawfulTrail}
use Rattle.trail.specs.Promises.{ArePromised}
use Rattle.trail.specs.Spelling.{trail_text}
use Rattle.desk.specs.State.{State}
use Rattle.desk.specs.Base.{IsBase}
use Rattle.desk.specs.Reads.{RoseWithin}
use Rattle.desk.specs.Logged.{put_change, create_change}
use Rattle.desk.specs.Changes.{IsCleanedBy}
use Rattle.redo_mark.specs.Device.{Told, RedoSeen}
use Rattle.redo_mark.specs.Logs.{IsKeptAt}
use Rattle.redo_mark.specs.Records.{record_of}
use Rattle.redo_mark.specs.declared.redo.RedoEnd.{RedoEnd}
use Rattle.script_text.specs.Plan.{Plan, commands_of}
use Rattle.script_text.specs.CommandLine.{IsRun}
use Rattle.script_text.specs.Verdict.{IsScript}
use Rattle.script_text.specs.declared.script.Command.{Command}
use Rattle.script_run.specs.Todo.{Todo, answers_of, IsEntryOf}
use Rattle.script_run.specs.Openings.{Start, opening_of, AreFaultsWithin}

-- the events are of thread 1 and of the runner, caller 0
abbrev pub AreOfOneThread : List Event → Type 0
AreOfOneThread [] = ⊤
AreOfOneThread (e ∷ past) = (caller_of e ≤ 1) × AreOfOneThread past

-- the cause by which a fault of the closing flush is told
abbrev pub fault_cause : Bool → ℕ → ℕ → Cause
fault_cause true before after = cause.RedoFault before after
fault_cause false before after = cause.DiskFault before after

abbrev pub cause_at : FaultAt → Cause
cause_at f = fault_cause f.log f.before f.after

-- the entry that closes a trail: a clean that wrote so many pages, or its refusal by the fault
abbrev pub closing_of : Option FaultAt → ℕ → Kind
closing_of None written = kind.Clean written []
closing_of (Some f) written = kind.Refused (call.Clean 16384) (cause_at f)

-- One lawful history of the plain page map, in which thread 1 does what its commands say, each call once and in order, and the runner's one call comes last.
-- Without a fault that call leaves no page dirty.
pub record IsRunOf (o : Opening) (pages : ℕ → ℕ) (commands : List Command) (fault : Option FaultAt) (trail : Events) : Type 0 where
  pub lawful : IsLawfulTrail o trail
  pub promised : ArePromised o pages (reverse trail.events)
  pub todo : Todo (entries (reverse trail.events)) 1 commands [] (answers_of 1 trail.events)
  pub close : Event
  pub written : ℕ
  pub closed : answers_of 0 trail.events ≡ close ∷ []
  pub closing_is : IsEntryOf (closing_of fault written) close
  pub last : (rest : List Event) × (reverse trail.events ≡ close ∷ rest)
  pub others : AreOfOneThread (reverse trail.events)
  pub clean : fault ≡ None → dirty (entries (reverse trail.events)) ≡ []

-- a disk and a log's device, offered with all that they tell
abbrev pub disk_as : DiskSeen → OfferedDisk
disk_as disk = record { told = disk.told; spaces = Some disk.spaces; faults = Some disk.faults }

abbrev pub log_as : RedoSeen → OfferedLog
log_as device = record { told = device.told; faults = Some device.faults }

-- the start of a run on a disk and a log that were offered so; a count that isn't told is taken as 0
abbrev pub start_of : OfferedDisk → OfferedLog → (ℕ → ℕ) → Start
start_of disk log pages = record { told = disk.told; pages = pages; disk_faults = unwrap_or disk.faults 0; log_faults = unwrap_or log.faults 0 }

-- a told page is a page for what the history says was last written of it, and as it was handed out where nothing was
abbrev pub IsSavedPage : Bool → Option (List ℕ) → Option Content → PageId → List ℕ → Type 0
IsSavedPage true was now p bytes = IfSome now (λ c. IsPage p bytes c)
IsSavedPage false was now p bytes = was ≡ Some bytes

-- a told page that has a value is a page for it, and each other one is as it was handed out
abbrev pub IsValuedPage : Option (List ℕ) → Option Content → PageId → List ℕ → Type 0
IsValuedPage was None p bytes = was ≡ Some bytes
IsValuedPage was (Some c) p bytes = IsPage p bytes c

-- What the disk holds behind a trail, for each page of its spaces; where the closing flush did not fail, that is what the trail says.
pub record IsDiskOf (size : ℕ) (base : PageId → Option Content) (pages : ℕ → ℕ) (was now : PageId → Option (List ℕ)) (fault : Option FaultAt) (h : List Entry) : Type 0 where
  pub saved : (p : PageId) → p.page < pages p.space → IfSome (now p) (λ bytes. IsSavedPage (is_written h p) (was p) (saved size base h p) p bytes)
  -- only a page that is dirty may have become untold, by a write that failed
  pub told : (p : PageId) → p.page < pages p.space → is_dirty h p ≡ false → IsSome (was p) → IsSome (now p)
  pub whole : fault ≡ None → (p : PageId) → p.page < pages p.space → IfSome (now p) (λ bytes. IsValuedPage (was p) (value size base h p) p bytes)

-- the log keeps the record of a change at its start LSN; the log file's first byte has this LSN
abbrev pub IsKeptKind : ℕ → Option Told → Kind → Type 0
IsKeptKind lsn told (kind.Create p f start end now) = IsKeptAt lsn (record_of (create_change p) start) start told
IsKeptKind lsn told (kind.Put p at bytes start end) = IsKeptAt lsn (record_of (put_change p at bytes) start) start told
IsKeptKind lsn told _ = ⊤

abbrev pub KeepsRecords : ℕ → Option Told → List Entry → Type 0
KeepsRecords lsn told [] = ⊤
KeepsRecords lsn told (e ∷ h) = IsKeptKind lsn told e.kind × KeepsRecords lsn told h

-- and so where the record ends at the log's durable mark or below it
abbrev pub IsKeptBelow : ℕ → ℕ → Option Told → Kind → Type 0
IsKeptBelow lsn durable told k = IfSome (change_in k) (λ c. c.end ≤ durable → IsKeptKind lsn told k)

abbrev pub KeepsRecordsBelow : ℕ → ℕ → Option Told → List Entry → Type 0
KeepsRecordsBelow lsn durable told [] = ⊤
KeepsRecordsBelow lsn durable told (e ∷ h) = IsKeptBelow lsn durable told e.kind × KeepsRecordsBelow lsn durable told h

-- no refusal names an end of the log behind this one
abbrev pub EndsCause : ℕ → Cause → Type 0
EndsCause end why = IfSome (spent_end why) (λ at. at ≤ end)

-- and no entry does
abbrev pub EndsKind : ℕ → Kind → Type 0
EndsKind end (kind.Create p f from to now) = to ≤ end
EndsKind end (kind.Put p at bytes from to) = to ≤ end
EndsKind end (kind.Check lsn) = lsn ≤ end
EndsKind end (kind.Refused asked why) = EndsCause end why
EndsKind end _ = ⊤

abbrev pub EndsBehind : ℕ → List Entry → Type 0
EndsBehind end [] = ⊤
EndsBehind end (e ∷ h) = EndsKind end e.kind × EndsBehind end h

-- nothing but more bytes behind those that the log kept when it was handed out
abbrev pub IsExtended : Option Told → Option Told → Type 0
IsExtended was now = IfSome was (λ s. IsSomeAnd now (λ t. (more : List ℕ) × (t.kept ≡ s.kept ++ more)))

-- What the log holds behind a trail: its end is behind each change and each end that the trail names, it is durable up to where each write says, what it keeps ends at its
-- durable mark, and it keeps the record of each change that ends there or before; where the closing flush did not fail, it is durable up to its end and keeps each change.
pub record IsLogOf {R : Type 0} (lsn : ℕ) (was : Option Told) (log_seen : R → RedoSeen) (log : RedoEnd R) (fault : Option FaultAt) (h : List Entry) : Type 0 where
  pub ends : EndsBehind log.end h
  pub durable : log.durable ≤ log.end
  pub marks : AreDurable log.durable h
  pub whole : fault ≡ None → log.durable ≡ log.end
  pub long : IfSome was (λ s. IsSomeAnd (log_seen log.disk).told (λ t. lsn + length t.kept ≡ log.durable))
  pub extended : IsExtended was (log_seen log.disk).told
  pub settled : KeepsRecordsBelow lsn log.durable (log_seen log.disk).told h
  pub kept : fault ≡ None → KeepsRecords lsn (log_seen log.disk).told h

abbrev pub is_refused_kind : Kind → Bool
is_refused_kind (kind.Refused asked why) = true
is_refused_kind _ = false

abbrev pub is_refused_note : Note → Bool
is_refused_note (note.Refused asked why) = true
is_refused_note _ = false

-- whether the event is a refusal
abbrev pub is_refused : Event → Bool
is_refused (event.Entry e) = is_refused_kind e.kind
is_refused (event.Receipt r) = is_refused_note r.note

-- A script was run to its end on a disk and a log that were offered so.
pub record IsEndedRun {D R : Type 0} (given : OfferedDisk) (given_log : OfferedLog) (seen : D → DiskSeen) (log_seen : R → RedoSeen) (plan : Plan)
    (fault : Option FaultAt) (trails : List Events) (disks : List D) (log : Option (RedoEnd R)) : Type 0 where
  pub trail : Events
  pub disk : D
  pub end : RedoEnd R
  pub trails_are : trails ≡ trail ∷ []
  pub disks_are : disks ≡ disk ∷ []
  pub log_is : log ≡ Some end
  -- over every base that the disk's told bytes give, and without values where it doesn't tell
  pub run : (base : Option (PageId → Option Content)) → IfSome base (λ first. IsBase given.told (pages_in (seen disk).spaces) first)
      → IsRunOf (opening_of plan.config base) (pages_in (seen disk).spaces) (commands_of plan) fault trail
  -- each fault that the trail tells lies between the count with which its device was handed out, where that is told, and its count now
  pub faults : AreFaultsWithin (start_of given given_log (pages_in (seen disk).spaces)) (seen disk).faults (log_seen end.disk).faults (entries (reverse trail.events))
  pub spaces_are : IfSome given.spaces (λ known. (s : ℕ) → (seen disk).spaces s ≡ known s)
  pub holds : (base : PageId → Option Content) → IsBase given.told (pages_in (seen disk).spaces) base
      → IsDiskOf (page_bytes plan.config.page) base (pages_in (seen disk).spaces) given.told (seen disk).told fault (entries (reverse trail.events))
  pub logs : IsLogOf plan.config.lsn given_log.told log_seen end fault (entries (reverse trail.events))

-- And the script is what the source had left, where that is told.
pub record IsEnded {D R : Type 0} (left : Option (List ℕ)) (given : OfferedDisk) (given_log : OfferedLog) (seen : D → DiskSeen) (log_seen : R → RedoSeen)
    (fault : Option FaultAt) (trails : List Events) (disks : List D) (log : Option (RedoEnd R)) : Type 0 where
  pub plan : Plan
  pub script : (bytes : List ℕ) → left ≡ Some bytes → IsScript bytes plan
  pub run : IsEndedRun given given_log seen log_seen plan fault trails disks log

-- A log that was handed back as it was opened: its end and how far it is durable are its length then, and it tells what it told then.
pub record IsLogAsOpened {R : Type 0} (was : Option Told) (log_seen : R → RedoSeen) (log : RedoEnd R) : Type 0 where
  pub ends : log.end ≡ (log_seen log.disk).opened
  pub durable : log.durable ≡ log.end
  pub told : (log_seen log.disk).told ≡ was

-- The log is too long for the script's `lsn`: its last byte would have an LSN above 2^63. It is handed back as it was opened.
pub record IsLongLog {R : Type 0} (left : Option (List ℕ)) (was : Option Told) (log_seen : R → RedoSeen) (line : ℕ) (log : Option (RedoEnd R)) : Type 0 where
  pub plan : Plan
  pub script : (bytes : List ℕ) → left ≡ Some bytes → IsScript bytes plan
  pub end : RedoEnd R
  pub log_is : log ≡ Some end
  pub whole : line ≡ 0
  pub opened : IsLogAsOpened was log_seen end
  pub beyond : LAST_LSN < plan.config.lsn + end.end

-- the statuses at which a script was run to its end, and trails and disks are handed back
abbrev pub HasEnded : ℕ → Option FaultAt → Type 0
HasEnded status fault = (status ≡ 0) ⊎ (status ≡ 1) ⊎ (status ≡ 5) ⊎ ((status ≡ 6) × IsSome fault)

-- the statuses of a script that was read
abbrev pub IsRunStatus : ℕ → Type 0
IsRunStatus status = (status ≡ 0) ⊎ (status ≡ 1) ⊎ (status ≡ 5) ⊎ (status ≡ 6) ⊎ (status ≡ 7)

-- the statuses at which nothing was written
abbrev pub IsSilent : ℕ → Type 0
IsSilent status = (status ≡ 2) ⊎ (status ≡ 3) ⊎ (status ≡ 4) ⊎ (status ≡ 6) ⊎ (status ≡ 7)

-- no script is answered as such, with its first bad line, where the words are a command and the source did not fail, memory aside
abbrev pub IsNoScript : ℕ → ℕ → ℕ → Type 0
IsNoScript status line n = (status ≡ 2) ⊎ ((status ≡ 3) × (line ≡ n)) ⊎ (status ≡ 4) ⊎ (status ≡ 7)

-- a fault of the log or of the disk of instance 0 in the closing flush
pub record IsFlushFault (f : FaultAt) : Type 0 where
  pub instance : f.instance ≡ 0
  pub rose : Rose f.before f.after

-- The text of the trails, instances rising, went behind what the sink held.
abbrev pub texts_of : ℕ → List Events → List ℕ
texts_of instance [] = []
texts_of instance (t ∷ ts) = trail_text instance t ++ texts_of (instance + 1) ts

abbrev pub AreTextsWritten : Option (List ℕ) → Option (List ℕ) → List Events → Type 0
AreTextsWritten before after trails = (held : List ℕ) → before ≡ Some held → after ≡ Some (held ++ texts_of 0 trails)

-- or a beginning of it
abbrev pub IsWrittenInPart : Option (List ℕ) → Option (List ℕ) → List Events → Type 0
IsWrittenInPart before after trails = (held : List ℕ) → before ≡ Some held → (n : ℕ) × (after ≡ Some (held ++ take n (texts_of 0 trails)))

-- whether a trail holds a refused event
abbrev pub has_refusal : List Events → Bool
has_refusal trails = list_any (λ (t : Events). list_any is_refused t.events) trails

-- the words are `run SPACE FILE LOG`
abbrev pub AreRun : List (List ℕ) → Type 0
AreRun words = (space : ℕ) × (file : List ℕ) × (log : List ℕ) × IsRun words space file log

-- A shelf that had no call before has none now, or was asked for the disk of instance 0 once and then at most once for the log, with the script's numbers, and has not strayed.
pub record IsAskedOnce (left : Option (List ℕ)) (now : Asked) : Type 0 where
  pub plan : Plan
  pub script : (bytes : List ℕ) → left ≡ Some bytes → IsScript bytes plan
  pub log : Bool
  pub asked : now ≡ record { config = Some plan.config; disks = 1; log = log; strayed = false }

-- The runner's clean wrote pages and was answered, or refused by the fault; without one no page is dirty.
pub record IsClosingClean {D : Type 0} (old new : State D) (fault : Option FaultAt) : Type 0 where
  pub written : ℕ
  pub cleaned : IsCleanedBy old new (record { pass = 0; number = 1 }) written (closing_of fault written)
  pub most : written ≤ 16384
  pub clean : fault ≡ None → dirty new.history ≡ []

-- the count of faults of the device that failed rose so in the flush; the disk's and the log's were and are so
abbrev pub RoseSo : Bool → ℕ → ℕ → ℕ → ℕ → ℕ → ℕ → Type 0
RoseSo true disk_was disk_is log_was log_is before after = RoseWithin log_was log_is before after
RoseSo false disk_was disk_is log_was log_is before after = RoseWithin disk_was disk_is before after

pub record IsFlushedWith (disk_was disk_is log_was log_is : ℕ) (f : FaultAt) : Type 0 where
  pub where_is : IsFlushFault f
  pub counts : RoseSo f.log disk_was disk_is log_was log_is f.before f.after

-- each disk was synced since its last write
abbrev pub AreSynced : {D : Type 0} → (D → DiskSeen) → List D → Type 0
AreSynced seen [] = ⊤
AreSynced seen (d ∷ ds) = IsTrue (seen d).synced × AreSynced seen ds
