-- A desk as the layers above see it.
use Rattle.std.specs.Prelude.{ℕ, List, ◌≡◌, Option, Some}
use Rattle.page_ids.specs.declared.ids.PageId.{PageId}
use Rattle.page_ids.specs.declared.config.Config.{Config}
use Rattle.page_disk.specs.Disks.{IsInside}
use Rattle.trail.specs.declared.event.Entry.{Entry}
use Rattle.trail.specs.History.{home}

-- the numbers of its pool, the instance that it serves, its history with the newest entry first, and its disk
pub record State (D : Type 0) : Type 0 where
  pub config : Config
  pub instance : ℕ
  pub history : List Entry
  pub disk : D

-- beside it, for how many entries there is room
pub record DeskWithRoom (D : Type 0) : Type 0 where
  pub state : State D
  pub room : ℕ

-- a resident page lies in its space
abbrev pub AreInside : (ℕ → Option ℕ) → List Entry → Type 0
AreInside spaces history = (p : PageId) (f : ℕ) → home history p ≡ Some f → IsInside spaces p
