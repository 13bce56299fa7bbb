-- Why a page was not read in.
use Rattle.std.specs.Prelude.{ℕ, List, ◌≡◌, ◌≤◌, Option, IfSome}
use Rattle.page_ids.specs.Faults.{Rose}
use Rattle.page_ids.specs.Refusal.{IsBadPage}
use Rattle.page_ids.specs.declared.ids.PageId.{PageId}
use Rattle.page_ids.specs.declared.layout.BadPage.{BadPage}
use Rattle.desk.specs.declared.parts.ReadErr.{ReadErr}
use Rattle.desk.specs.declared.parts.ReadErr.TheVariants as refusal

-- the bytes that were read, which are those told, are no page of the id
pub record IsBadRead (told : Option (List ℕ)) (p : PageId) (bad : BadPage) : Type 0 where
  pub bytes : List ℕ
  pub known : IfSome told (λ here. bytes ≡ here)
  pub because : IsBadPage p bytes bad

-- the disk's count of faults went from the one to the other, and rose
pub record IsDiskFault (was is before after : ℕ) : Type 0 where
  pub first : before ≡ was
  pub last : after ≡ is
  pub rose : Rose before after

-- the count of faults rose so within a call in which it went from `was` to `is`
pub record RoseWithin (was is before after : ℕ) : Type 0 where
  pub first : was ≤ before
  pub last : after ≤ is
  pub rose : Rose before after

-- the count of faults was so before the read and is so after it
abbrev pub IsReadRefusal : Option (List ℕ) → ℕ → ℕ → PageId → ReadErr → Type 0
IsReadRefusal told was is p (refusal.DiskFault before after) = IsDiskFault was is before after
IsReadRefusal told was is p (refusal.BadPage bad) = IsBadRead told p bad
