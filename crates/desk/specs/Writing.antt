-- What the write of a page behind its log needs, what it leaves of the log, and what it answers.
use Rattle.std.specs.Prelude.{ℕ, ◌≡◌, ◌<◌, ◌≤◌, Result, Ok, Err, length}
use Rattle.page_ids.specs.Content.{Content}
use Rattle.page_ids.specs.declared.ids.PageId.{PageId}
use Rattle.page_disk.specs.Disks.{DiskSeen, IsInside, Fades}
use Rattle.redo_mark.specs.Logs.{Seen, IsLater, IsKept}
use Rattle.desk.specs.Changes.{IsImageTold, IsWriteFault, IsForced, covered_to}
use Rattle.desk.specs.Logged.{IsMarkBehind}
use Rattle.desk.specs.Moments.{LogSeen}
use Rattle.desk.specs.declared.flush.WriteErr.{WriteErr}
use Rattle.desk.specs.declared.flush.WriteErr.TheVariants as unwritten

-- The page lies in its space, its image and the buffer are as long as the disk's pages, and the log reaches up to the image's LSN.
pub record MayWrite (disk : DiskSeen) (log : Seen) (p : PageId) (c : Content) (buffer : ℕ) : Type 0 where
  pub inside : IsInside disk.spaces p
  pub sized : length c.bytes ≡ disk.size
  pub buffer_is : buffer ≡ disk.size
  pub known : c.lsn ≤ log.end

-- The log has no record more, and is durable up to where it was, or up to its end.
pub record Covers (old new : LogSeen) : Type 0 where
  pub later : IsLater old.seen new.seen
  pub end : new.seen.end ≡ old.seen.end
  pub mark : IsMarkBehind old.seen new.seen.durable
  pub opening : new.opening ≡ old.opening
  pub kept : IsKept new.seen new.told

-- the page stands on the disk, behind a log that is durable up to here
pub record Written (disk now : DiskSeen) (old new : LogSeen) (p : PageId) (c : Content) (upto : ℕ) : Type 0 where
  pub told : IsImageTold p c disk now
  pub covered : c.lsn ≤ upto
  pub upto_is : upto ≡ new.seen.durable
  pub mark_is : new.seen.durable ≡ covered_to old.seen.durable old.seen.end c.lsn

-- How far the log is durable behind a write that failed: as far as it was, where the log failed; else up to this LSN.
abbrev pub IsLeftAt : ℕ → ℕ → ℕ → ℕ → WriteErr → Type 0
IsLeftAt durable end lsn now (unwritten.RedoFault before after) = now ≡ durable
IsLeftAt durable end lsn now (unwritten.DiskFault before after) = now ≡ covered_to durable end lsn

-- It doesn't: the log, which isn't durable up to the image's LSN, failed before the disk was used; or the disk did.
pub record Unwritten {D : Type 0} (seen : D → DiskSeen) (disk now : D) (old new : LogSeen) (p : PageId) (c : Content) (e : WriteErr) : Type 0 where
  pub fades : Fades ((seen disk).told p) ((seen now).told p)
  pub fault : IsWriteFault (seen disk).faults (seen now).faults old.seen.faults new.seen.faults e
  pub forced : IsForced disk now (new.seen.durable < c.lsn) e
  pub left : IsLeftAt old.seen.durable old.seen.end c.lsn new.seen.durable e

abbrev pub Writes : {D : Type 0} → (D → DiskSeen) → D → D → LogSeen → LogSeen → PageId → Content → Result ℕ WriteErr → Type 0
Writes seen disk now old new p c (Ok upto) = Written (seen disk) (seen now) old new p c upto
Writes seen disk now old new p c (Err e) = Unwritten seen disk now old new p c e
