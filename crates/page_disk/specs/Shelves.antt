-- How a shelf was called, and what it tells of the disks and of the log that it hands out.
use Rattle.std.specs.Prelude.{ℕ, Bool, true, false, List, ◌≡◌, ◌≢◌, ◌+◌, ◌-◌, ◌^◌, ◌⊎◌, ◌↔◌, min, Option, None, Some, IfSome, IsTrue, unwrap_or}
use Rattle.page_ids.specs.declared.ids.PageId.{PageId}
use Rattle.page_ids.specs.declared.config.Config.{Config}
use Rattle.redo_mark.specs.Device.{Told, RedoSeen}
use Rattle.page_disk.specs.Disks.{DiskSeen}

-- the Config of the first call, the number of calls for a disk, whether the log was asked for, and whether it strayed
pub record Asked : Type 0 where
  pub config : Option Config
  pub disks : ℕ
  pub log : Bool
  pub strayed : Bool

-- no call so far
abbrev pub unasked : Asked
unasked = record { config = None; disks = 0; log = false; strayed = false }

-- A disk was asked for. A shelf strays where a call has another Config than the first, asks for another instance than the number of calls
-- for a disk before it, or comes after the log was asked for.
pub record IsAskedFor (config : Config) (instance : ℕ) (old new : Asked) : Type 0 where
  pub first : new.config ≡ Some (unwrap_or old.config config)
  pub disks : new.disks ≡ min (old.disks + 1) (2 ^ 64 - 1)
  pub log : new.log ≡ old.log
  pub strayed : IsTrue new.strayed
      ↔ (IsTrue old.strayed ⊎ (config ≢ unwrap_or old.config config) ⊎ (instance ≢ old.disks) ⊎ IsTrue old.log)

-- The log was asked for. A shelf strays where the call has another Config than the first, or comes after the log was asked for.
pub record IsAskedForLog (config : Config) (old new : Asked) : Type 0 where
  pub first : new.config ≡ Some (unwrap_or old.config config)
  pub disks : new.disks ≡ old.disks
  pub log : new.log ≡ true
  pub strayed : IsTrue new.strayed ↔ (IsTrue old.strayed ⊎ (config ≢ unwrap_or old.config config) ⊎ IsTrue old.log)

-- With what a disk is handed out: what it tells of a page, and, where these are told, how many pages each space has and its count of faults.
pub record OfferedDisk : Type 0 where
  pub told : PageId → Option (List ℕ)
  pub spaces : Option (ℕ → Option ℕ)
  pub faults : Option ℕ

-- With what the log's device is handed out: what it tells, and its count of faults, where that is told.
pub record OfferedLog : Type 0 where
  pub told : Option Told
  pub faults : Option ℕ

-- what a shelf tells of itself: how it was called so far, the disk of each instance, the log, and how often it failed
pub record ShelfSeen : Type 0 where
  pub asked : Asked
  pub disks : ℕ → OfferedDisk
  pub log : OfferedLog
  pub faults : ℕ

-- a disk is as it was offered
pub record IsAsOffered (offered : OfferedDisk) (disk : DiskSeen) : Type 0 where
  pub told : (p : PageId) → disk.told p ≡ offered.told p
  pub spaces : IfSome offered.spaces (λ spaces. (s : ℕ) → disk.spaces s ≡ spaces s)
  pub faults : IfSome offered.faults (λ n. disk.faults ≡ n)

-- and so is a log's device
pub record IsLogAsOffered (offered : OfferedLog) (device : RedoSeen) : Type 0 where
  pub told : device.told ≡ offered.told
  pub faults : IfSome offered.faults (λ n. device.faults ≡ n)
