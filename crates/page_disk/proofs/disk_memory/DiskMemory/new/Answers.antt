use Rattle.std.proofs.Common.{◌≡◌, ◌++◌, ◌∷◌, [], ◌∙◌, rules}
use Rattle.page_ids.specs.Size.{page_bytes}
use Rattle.page_disk.specs.MemoryDisks.{HasSize, IsKept, whole}
use Rattle.page_disk.proofs.Kept.{kept_moves, sized_more, all_last, all_before}
use Rattle.page_disk.proofs.disk_memory.DiskMemory.new.Goals as goal

pub loop-page-preserved : goal.loop-page-preserved
loop-page-preserved c =
    let size = page_bytes c.args.size in
    let page = c.in-Some.page in
    let bytes = c.in-Some.bytes in
    let told = c.loop-page.told.items in
    let left = c.pop.new.self.items in
    let old = c.loop-page.kept.entries in
    let new = c.keep.new.pages.entries in
    let put : IsKept page (whole bytes.items) old new = search rules in
    let split : told ≡ left ++ (page, bytes) ∷ [] = search rules in
    let before = c.loop-page.invariant in
    record {
      left = all_before (HasSize size) told left (page, bytes) split before.left;
      kept = λ p. kept_moves told left page bytes old new p split put ∙ before.kept p;
      sized = sized_more size page (whole bytes.items) old new before.sized (all_last (HasSize size) told left (page, bytes) split before.left) put;
    }
