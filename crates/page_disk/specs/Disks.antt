-- What a disk of pages tells.
use Rattle.std.specs.Prelude.{ℕ, Bool, false, List, ◌≡◌, ◌<◌, ◌≤◌, Option, None, Some, IfSome, IsSomeAnd, unwrap_or}
use Rattle.page_ids.specs.Same.{same_page}
use Rattle.page_ids.specs.declared.ids.PageId.{PageId}

-- how many pages the space has, 0 where there is no such space
abbrev pub pages_in : (ℕ → Option ℕ) → ℕ → ℕ
pages_in spaces space = unwrap_or (spaces space) 0

-- the page lies in its space
abbrev pub IsInside : (ℕ → Option ℕ) → PageId → Type 0
IsInside spaces p = IsSomeAnd (spaces p.space) (λ n. p.page < n)

-- a page that is told as before, or no longer told
abbrev pub Fades : Option (List ℕ) → Option (List ℕ) → Type 0
Fades old new = IfSome new (λ bytes. old ≡ Some bytes)

-- what a disk of pages tells of itself: the bytes of each page, whether it tells what pages hold, the bytes of each page where they are told,
-- how many pages each space has, how often it failed, and whether nothing was written since the last sync that was done
pub record DiskSeen : Type 0 where
  pub size : ℕ
  pub tells : Bool
  pub told : PageId → Option (List ℕ)
  pub spaces : ℕ → Option ℕ
  pub faults : ℕ
  pub synced : Bool

-- the disk is as before: page size, whether it tells, told pages and spaces; and its count of faults did not fall
pub record IsSameDisk (old new : DiskSeen) : Type 0 where
  pub sizes : new.size ≡ old.size
  pub telling : new.tells ≡ old.tells
  pub bytes : (p : PageId) → new.told p ≡ old.told p
  pub spaces_are : (space : ℕ) → new.spaces space ≡ old.spaces space
  pub later : old.faults ≤ new.faults

-- the disk is as before but for what it tells of one page; and its count of faults did not fall
pub record IsOtherwiseSame (p : PageId) (old new : DiskSeen) : Type 0 where
  pub sizes : new.size ≡ old.size
  pub telling : new.tells ≡ old.tells
  pub bytes : (q : PageId) → same_page p q ≡ false → new.told q ≡ old.told q
  pub spaces_are : (space : ℕ) → new.spaces space ≡ old.spaces space
  -- one that does not tell tells of no page
  pub silent : new.tells ≡ false → new.told p ≡ None
  pub later : old.faults ≤ new.faults
