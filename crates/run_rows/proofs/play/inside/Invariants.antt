use Rattle.std.specs.Prelude.{◌∷◌, [], All, vec_len}
use Rattle.page_ids.specs.Size.{page_bytes}
use Rattle.page_disk.specs.Disks.{IsInside}
use Rattle.page_disk.specs.MemoryDisks.{pages_of, HasSize}
use Rattle.run_rows.proofs.play.inside.Given as goal

abbrev pub invariant-loop-page : goal.invariant-loop-page
invariant-loop-page l = All (λ e. IsInside (pages_of ((0, l.pages) ∷ [])) e.0 × HasSize (page_bytes l.size) e) l.kept.items

abbrev pub decreases-loop-page : goal.decreases-loop-page
decreases-loop-page l = vec_len l.told
