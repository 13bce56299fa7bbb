-- With what an instance is opened, and what its devices' faults are.
use Rattle.std.specs.Prelude.{ℕ, List, [], ◌∷◌, ◌≤◌, Option, IfSome, ⊤}
use Rattle.page_ids.specs.Content.{Content}
use Rattle.page_ids.specs.Size.{page_bytes}
use Rattle.page_ids.specs.declared.ids.PageId.{PageId}
use Rattle.page_ids.specs.declared.config.Config.{Config}
use Rattle.trail.specs.declared.event.Cause.{Cause}
use Rattle.trail.specs.declared.event.Cause.TheVariants as cause
use Rattle.trail.specs.declared.event.Kind.{Kind}
use Rattle.trail.specs.declared.event.Entry.{Entry}
use Rattle.trail.specs.Trails.{Opening}
use Rattle.trail.specs.Kinds.{refusal_in}
use Rattle.desk.specs.Base.{Opened}

abbrev pub opening_of : Config → Option (PageId → Option Content) → Opening
opening_of config base = record { first = config.first; config = config; base = base }

-- What the disk told when it was handed out, how many pages its spaces have, and the counts of faults with which the disk and the log were.
pub record Start : Type 0 where
  pub told : PageId → Option (List ℕ)
  pub pages : ℕ → ℕ
  pub disk_faults : ℕ
  pub log_faults : ℕ

abbrev pub opened_of : Opening → Start → (PageId → Option Content) → Opened
opened_of o start base = record { size = page_bytes o.config.page; told = start.told; pages = start.pages; base = base }

-- The cause tells of a fault of a device only between these counts.
abbrev pub IsCauseWithin : Start → ℕ → ℕ → Cause → Type 0
IsCauseWithin start disk log (cause.RedoFault before after) = (start.log_faults ≤ before) × (after ≤ log)
IsCauseWithin start disk log (cause.DiskFault before after) = (start.disk_faults ≤ before) × (after ≤ disk)
IsCauseWithin start disk log _ = ⊤

abbrev pub IsKindWithin : Start → ℕ → ℕ → Kind → Type 0
IsKindWithin start disk log k = IfSome (refusal_in k) (λ r. IsCauseWithin start disk log r.cause)

-- Each fault that a history tells lies between the count with which its device was handed out and its count now.
abbrev pub AreFaultsWithin : Start → ℕ → ℕ → List Entry → Type 0
AreFaultsWithin start disk log [] = Unit {0}
AreFaultsWithin start disk log (e ∷ h) = IsKindWithin start disk log e.kind × AreFaultsWithin start disk log h
