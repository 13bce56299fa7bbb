-- How `Watches` are kept.
use Rattle.std.specs.Prelude.{◌≤◌, vec_capacity}
use Rattle.page_ids.specs.declared.limits.TheConstants.{MOST_WATCHES}
use Rattle.watches.specs.declared.list.Watches.TheInside.{Inside}
use Rattle.watches.specs.View.{IsInOrder}

-- the list in order, and memory for as many as may be
pub record IsKept (a : Inside) : Type 0 where
  pub order : IsInOrder a.items.items
  pub enough : MOST_WATCHES ≤ vec_capacity a.items
