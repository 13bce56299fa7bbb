-- How a `PageHash` is kept.
use Rattle.std.specs.Prelude.{ℕ, List, Option, Some, ◌≡◌, ◌<◌, ◌^◌, length}
use Rattle.page_ids.specs.declared.ids.PageId.{PageId}
use Rattle.page_hash.specs.declared.hash.PageHash.TheInside.{Inside}
use Rattle.page_hash.specs.Cells.{AreFiled}
use Rattle.page_hash.specs.View.{page_in}

-- no two frames have one page
abbrev pub AreFramesApart : List (Option PageId) → Type 0
AreFramesApart pages = (f g : ℕ) (p : PageId) → page_in pages f ≡ Some p → page_in pages g ≡ Some p → f ≡ g

-- a node for each frame, and each frame that has a page in the cell of that
pub record IsKept (a : Inside) : Type 0 where
  pub some : 0 < length a.cells.items
  pub fits : length a.pages.items < 2 ^ 32
  pub nodes : a.nodes.nodes ≡ length a.pages.items
  pub apart : AreFramesApart a.pages.items
  pub filed : AreFiled a.nodes a.cells.items (page_in a.pages.items)
