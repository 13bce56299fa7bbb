-- Disks in memory, and a shelf of them.
use Rattle.std.specs.Prelude.{ℕ, Bool, true, false, List, Option, None, Some, ◌≡◌, ◌≢◌, ◌==◌, ◌++◌, ◌/◌, cond, length, map, find, take, drop, replicate, nat_lt, slice_index_or, IfSome, option_map, option_and_then, if◌then◌else◌}
use Rattle.std.specs.Global.{Vec}
use Rattle.std.specs.Map.{lookup}
use Rattle.std.specs.BTreeMap.{is_at}
use Rattle.page_ids.specs.Size.{page_bytes}
use Rattle.page_ids.specs.Same.{page_cmp}
use Rattle.page_ids.specs.declared.ids.PageId.{PageId}
use Rattle.page_ids.specs.declared.ids.PageSize.{PageSize}
use Rattle.redo_mark.specs.Device.{RedoSeen, IsAsOpened}
use Rattle.redo_mark.specs.Memory.{Counts}
use Rattle.redo_mark.specs.declared.memory.RedoMemory.{RedoMemory}
use Rattle.page_disk.specs.Disks.{DiskSeen, pages_in}
use Rattle.page_disk.specs.Shelves.{Asked, ShelfSeen, OfferedDisk, OfferedLog}

-- the bytes that are kept of a page, and whether its last write failed behind the first half
pub record KeptPage : Type 0 where
  pub bytes : List ℕ
  pub torn : Bool

-- its spaces with their numbers of pages, and the pages that it keeps; every other page is of zeros
pub record DiskMemory : Type 0 where
  pub size : PageSize
  pub spaces : List (ℕ × ℕ)
  pub kept : List (PageId × KeptPage)
  pub calls : Counts
  pub synced : Bool

-- how many pages a space has
abbrev pub pages_of : List (ℕ × ℕ) → ℕ → Option ℕ
pages_of spaces space = option_map (λ s. s.1) (find (λ s. s.0 == space) spaces)

-- what is kept of a page
abbrev pub kept_of : List (PageId × KeptPage) → PageId → Option KeptPage
kept_of kept p = lookup (is_at (page_cmp p)) kept

-- this is kept of the page, and of all others the same as before
abbrev pub IsKept : PageId → KeptPage → List (PageId × KeptPage) → List (PageId × KeptPage) → Type 0
IsKept page now old new = (p : PageId) → kept_of new p ≡ cond (is_at (page_cmp page) p) (Some now) (kept_of old p)

-- a page that was written whole
abbrev pub whole : List ℕ → KeptPage
whole bytes = record { bytes = bytes; torn = false }

-- a page over whose bytes the first half was written
abbrev pub half_over : List ℕ → List ℕ → KeptPage
half_over bytes before = record { bytes = take (length bytes / 2) bytes ++ drop (length bytes / 2) before; torn = true }

-- pages with their bytes
abbrev pub contents_of : List (PageId × Vec ℕ) → List (PageId × KeptPage)
contents_of pages = map (λ e. (e.0, whole e.1.items)) pages

-- a page whose bytes are so many
abbrev pub HasSize : ℕ → PageId × Vec ℕ → Type 0
HasSize size e = length e.1.items ≡ size

-- every page that is kept has so many bytes
abbrev pub AreKeptSized : ℕ → List (PageId × KeptPage) → Type 0
AreKeptSized size kept = (p : PageId) → IfSome (kept_of kept p) (λ k. length k.bytes ≡ size)

abbrev pub size_of : DiskMemory → ℕ
size_of d = page_bytes d.size

abbrev pub tells_of : DiskMemory → Bool
tells_of d = true

abbrev pub spaces_of : DiskMemory → ℕ → Option ℕ
spaces_of d = pages_of d.spaces

abbrev pub faults_of : DiskMemory → ℕ
faults_of d = d.calls.faults

abbrev pub synced_of : DiskMemory → Bool
synced_of d = d.synced

-- the bytes of a page of this size: zeros where none are kept
abbrev pub bytes_in : ℕ → Option KeptPage → List ℕ
bytes_in size None = replicate size 0
bytes_in size (Some k) = k.bytes

-- the same where they are told: a torn page is not
abbrev pub told_in : ℕ → Option KeptPage → Option (List ℕ)
told_in size None = Some (replicate size 0)
told_in size (Some k) = if k.torn then None else Some k.bytes

-- what a read of the page gives
abbrev pub bytes_of : DiskMemory → PageId → List ℕ
bytes_of d p = bytes_in (size_of d) (kept_of d.kept p)

-- every page of its spaces is told but the torn ones
abbrev pub told_of : DiskMemory → PageId → Option (List ℕ)
told_of d p = if nat_lt p.page (pages_in (spaces_of d) p.space) then told_in (size_of d) (kept_of d.kept p) else None

abbrev pub disk_seen : DiskMemory → DiskSeen
disk_seen d = record { size = size_of d; tells = tells_of d; told = told_of d; spaces = spaces_of d; faults = faults_of d; synced = synced_of d }

-- the disks of the instances and the log, where they were not handed out, and how it was called
pub record MemoryShelf : Type 0 where
  pub disks : List (Option DiskMemory)
  pub redo : Option RedoMemory
  pub asked : Asked
  pub calls : Counts

-- the disk of an instance, where it is there
abbrev pub disk_of : List (Option DiskMemory) → ℕ → Option DiskMemory
disk_of disks instance = slice_index_or disks instance None

-- no disk of this page size is there for the instance
abbrev pub IsMissing : PageSize → ℕ → List (Option DiskMemory) → Type 0
IsMissing size instance disks = IfSome (disk_of disks instance) (λ d. d.size ≢ size)

-- with what a disk is handed out; nothing is told of one that is not there
abbrev pub offered_disk : Option DiskMemory → OfferedDisk
offered_disk disk = record { told = λ p. option_and_then (λ d. told_of d p) disk; spaces = option_map spaces_of disk; faults = option_map faults_of disk }

-- what the log's device tells
abbrev pub redo_seen : RedoMemory → RedoSeen
redo_seen m = record { told = Rattle.redo_mark.specs.Memory.told_of m.written.items m.kept; opened = m.opened; reach = length m.written.items; faults = m.calls.faults }

-- and with what it is handed out
abbrev pub offered_log : Option RedoMemory → OfferedLog
offered_log redo = record { told = option_and_then (λ m. (redo_seen m).told) redo; faults = option_map (λ m. (redo_seen m).faults) redo }

abbrev pub shelf_seen : MemoryShelf → ShelfSeen
shelf_seen s = record { asked = s.asked; disks = λ instance. offered_disk (disk_of s.disks instance); log = offered_log s.redo; faults = s.calls.faults }

-- nothing was written to the device
abbrev pub IsLogUnwritten : RedoMemory → Type 0
IsLogUnwritten m = IsAsOpened m.opened (redo_seen m).told
