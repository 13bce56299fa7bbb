-- What a worker did by several calls.
use Rattle.std.specs.Prelude.{ℕ, List, [], ◌++◌, ◌≤◌, filter, reverse}
use Rattle.page_ids.specs.declared.ids.PageId.{PageId}
use Rattle.page_disk.specs.Disks.{DiskSeen}
use Rattle.redo_mark.specs.Logs.{Seen}
use Rattle.trail.specs.declared.event.Entry.{Entry}
use Rattle.trail.specs.declared.event.Event.{Event}
use Rattle.trail.specs.Calls.{is_answer}
use Rattle.trail.specs.Trails.{Opening}
use Rattle.desk.specs.State.{State}
use Rattle.frame_words.specs.Plain.{Plain}
use Rattle.script_text.specs.declared.script.Command.{Command}
use Rattle.script_run.specs.Openings.{Start}
use Rattle.script_run.specs.Todo.{HistoryGoesOn, LooksAt, Scans, Makes}
use Rattle.script_run.specs.Work.{Working, HasPlayed, Along}

-- At most so many calls led from the one desk, its frames, log and worker to the other.
abbrev pub AlongFew : {D : Type 0} → (D → DiskSeen) → ℕ → State D → State D → Plain → Plain → Seen → Seen → Working → Working → Type 0
AlongFew seen most old new before after was is w v = (n : ℕ) × (n ≤ most) × Along seen n old new before after was is w v

-- A command was done: events came, and the answers among them are those of its calls.
pub record Done {D : Type 0} (seen : D → DiskSeen) (o : Opening) (start : Start) (desk : State D) (log : Seen) (worker : Working) (past : List Event) (command : Command) : Type 0 where
  pub more : List Event
  pub so_far : HasPlayed seen o start desk log worker (more ++ past) []
  pub makes : (h : List Entry) → HistoryGoesOn (more ++ past) h → Makes h worker.pass command past (reverse (filter is_answer more))

-- A page of a scan was looked at.
pub record Looked {D : Type 0} (seen : D → DiskSeen) (o : Opening) (start : Start) (desk : State D) (log : Seen) (worker : Working) (past : List Event) (p : PageId) (now : ℕ) : Type 0 where
  pub more : List Event
  pub so_far : HasPlayed seen o start desk log worker (more ++ past) []
  pub looks : LooksAt p now (reverse (filter is_answer more))

-- So many pages of a scan were looked at, from the first one on.
pub record Scanned {D : Type 0} (seen : D → DiskSeen) (o : Opening) (start : Start) (desk : State D) (log : Seen) (worker : Working) (past : List Event) (first : PageId) (now count : ℕ) : Type 0 where
  pub more : List Event
  pub so_far : HasPlayed seen o start desk log worker (more ++ past) []
  pub scans : Scans first now count (reverse (filter is_answer more))
