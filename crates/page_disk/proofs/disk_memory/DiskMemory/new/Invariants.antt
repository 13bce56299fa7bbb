use Rattle.std.specs.Prelude.{◌≡◌, ◌++◌, All, vec_len}
use Rattle.page_ids.specs.Size.{page_bytes}
use Rattle.page_ids.specs.declared.ids.PageId.{PageId}
use Rattle.page_disk.specs.MemoryDisks.{HasSize, contents_of, kept_of, AreKeptSized}
use Rattle.page_disk.proofs.disk_memory.DiskMemory.new.Given as goal

abbrev pub invariant-loop-page : goal.invariant-loop-page
invariant-loop-page l = record {
  left : All (HasSize (page_bytes l.fn.size)) l.told.items;
  kept : (p : PageId) → kept_of (contents_of l.told.items ++ l.kept.entries) p ≡ kept_of (contents_of l.fn.told.items) p;
  sized : AreKeptSized (page_bytes l.fn.size) l.kept.entries;
}

abbrev pub decreases-loop-page : goal.decreases-loop-page
decreases-loop-page l = vec_len l.told
