-- What is loaded of a dump.
use Rattle.std.specs.Prelude.{List, ◌↔◌}
use Rattle.std.specs.List.{Contains}
use Rattle.std.specs.List.Sorted.{IsStrictlySortedBy}
use Rattle.page_ids.specs.Same.{page_cmp}
use Rattle.page_ids.specs.declared.ids.PageId.{PageId}

-- the same ids, rising by space, then page, each once
pub record AreToLoad (ids loads : List PageId) : Type 0 where
  pub rising : IsStrictlySortedBy page_cmp loads
  pub same : (p : PageId) → Contains loads p ↔ Contains ids p
