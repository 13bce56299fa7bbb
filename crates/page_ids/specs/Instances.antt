-- To which instance of a pool a page belongs.
use Rattle.std.specs.Prelude.{ℕ, ◌+◌, ◌*◌, ◌/◌, ◌%◌}
use Rattle.page_ids.specs.declared.ids.PageId.{PageId}

-- the instance of a page, of so many: 64 neighbours share one
abbrev pub instance_of : PageId → ℕ → ℕ
instance_of p instances = (p.space * 31 + p.page / 64) % instances
