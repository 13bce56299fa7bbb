-- Counts of faults, and what leaves a disk in memory as it was.
use Rattle.std.proofs.Common.{◌≡◌, ◌≤◌, ℕ, refl}
use Rattle.std.specs.Prelude.{Result, Ok, Err, OnErr}
use Rattle.page_ids.specs.Faults.{Rose, IsCounted}
use Rattle.page_disk.specs.Disks.{IsSameDisk}
use Rattle.page_disk.specs.MemoryDisks.{DiskMemory, disk_seen, faults_of}

on_err : {T E P : Type 0} (result : Result T E) → P → OnErr result P
on_err (Ok x) p = tt
on_err (Err e) p = p

-- a count that rose is counted, whatever the answer
pub counted : {T E : Type 0} (before now : ℕ) (result : Result T E) → before ≤ now → Rose before now → IsCounted before now result
counted before now result later rose = record { later = later; failed = on_err result rose }

-- a disk with the same pages is the same
pub same_disk : (old new : DiskMemory) → new.size ≡ old.size → new.spaces ≡ old.spaces → new.kept ≡ old.kept → faults_of old ≤ faults_of new
    → IsSameDisk (disk_seen old) (disk_seen new)
same_disk old new size spaces kept later = rw (size, spaces, kept) record { sizes = refl; telling = refl; bytes = λ p. refl; spaces_are = λ s. refl; later = later }
