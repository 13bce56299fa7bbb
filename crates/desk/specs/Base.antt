-- With what a disk is opened, and the first values that this gives.
use Rattle.std.specs.Prelude.{ℕ, List, ◌≡◌, ◌<◌, Option, Some, MatchOption}
use Rattle.page_ids.specs.Content.{Content}
use Rattle.page_ids.specs.Layout.{IsPage}
use Rattle.page_ids.specs.declared.ids.PageId.{PageId}

-- what a disk told when it was opened, how many pages each space had, and the pages' first values; pages have `size` bytes
pub record Opened : Type 0 where
  pub size : ℕ
  pub told : PageId → Option (List ℕ)
  pub pages : ℕ → ℕ
  pub base : PageId → Option Content

-- the page is told, and its first value is what its bytes are a page of; it has none where they are no page
pub record IsGiven (told : Option (List ℕ)) (p : PageId) (first : Option Content) : Type 0 where
  pub bytes : List ℕ
  pub tells : told ≡ Some bytes
  pub content : MatchOption first ((c : Content) → IsPage p bytes c → ⊥) (λ c. IsPage p bytes c)

-- The pages' first values, where each page of the disk's spaces is told.
abbrev pub IsBase : (PageId → Option (List ℕ)) → (ℕ → ℕ) → (PageId → Option Content) → Type 0
IsBase told pages base = (p : PageId) → p.page < pages p.space → IsGiven (told p) p (base p)
