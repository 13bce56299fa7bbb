-- What a trial keeps of its parts, so that each call may come at any time.
use Rattle.std.specs.Prelude.{ℕ, ◌≡◌, ◌≤◌, ◌*◌, Option, IfSome, IsSome, length}
use Rattle.page_ids.specs.declared.ids.PageSize.TheVariants as page_size
use Rattle.page_disk.specs.MemoryDisks.{DiskMemory, disk_seen}
use Rattle.trail.specs.Dirt.{log_end}
use Rattle.trail.specs.History.{home}
use Rattle.frame_words.specs.Plain.{Plain, seen_of}
use Rattle.desk.specs.Moments.{IsEmptyHanded}
use Rattle.desk.specs.State.{State}
use Rattle.desk.specs.Tied.{AreTied}

-- Places are counted from 0, and pages have 4096 bytes. So many calls were made, and each has left few entries. The page of space 0 that
-- was fixed last is resident.
pub record IsOnTrial (calls : ℕ) (desk : State DiskMemory) (frames : Plain) (end : ℕ) (fixed : Option ℕ) : Type 0 where
  pub first : desk.config.first ≡ 0
  pub size : desk.config.page ≡ page_size.Kib4
  pub frames_are : desk.config.frames ≤ 8192
  pub few : calls ≤ 2001
  pub short : length desk.history ≤ 9000 * calls
  pub tied : AreTied disk_seen (seen_of frames) desk
  pub hands : IsEmptyHanded desk
  pub known : log_end desk.history ≤ end
  pub resident : IfSome fixed (λ page. IsSome (home desk.history (record { space = 0; page = page })))
