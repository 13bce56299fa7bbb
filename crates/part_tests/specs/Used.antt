-- The frames that were put into a page hash.
use Rattle.std.specs.Prelude.{ℕ, true, List, Option, Some, ◌≡◌, ◌==◌}
use Rattle.std.specs.List.{list_any}
use Rattle.page_ids.specs.declared.ids.PageId.{PageId}
use Rattle.page_hash.specs.View.{home}

-- each frame that is a page's home is one of these
abbrev pub AreUsed : List (Option PageId) → List ℕ → Type 0
AreUsed pages used = (p : PageId) (f : ℕ) → home pages p ≡ Some f → list_any (λ u. u == f) used ≡ true
