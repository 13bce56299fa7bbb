-- What a tablespace file tells as a disk: its size, its one space, its count of faults, and whether it was synced, but no content.
use Rattle.std.specs.Prelude.{ℕ, Bool, false, List, Option, None, Some, ◌==◌, if◌then◌else◌}
use Rattle.page_ids.specs.Size.{page_bytes}
use Rattle.page_ids.specs.declared.ids.PageId.{PageId}
use Rattle.page_disk.specs.Disks.{DiskSeen}
use Rattle.innopool.specs.declared.tablespace.TablespaceFile.{TablespaceFile}

abbrev pub size_of : TablespaceFile → ℕ
size_of d = page_bytes d.size

abbrev pub tells_of : TablespaceFile → Bool
tells_of d = false

abbrev pub told_of : TablespaceFile → PageId → Option (List ℕ)
told_of d p = None

abbrev pub spaces_of : TablespaceFile → ℕ → Option ℕ
spaces_of d space = if d.space == space then Some d.pages else None

abbrev pub faults_of : TablespaceFile → ℕ
faults_of d = d.faults

abbrev pub synced_of : TablespaceFile → Bool
synced_of d = d.synced

abbrev pub tablespace_seen : TablespaceFile → DiskSeen
tablespace_seen d = record { size = size_of d; tells = tells_of d; told = told_of d; spaces = spaces_of d; faults = faults_of d; synced = synced_of d }
