-- No image precedes its log.
use Rattle.std.specs.Prelude.{ℕ, List, ◌≡◌, ◌≤◌, Some, IfSome, ⊤}
use Rattle.page_ids.specs.declared.ids.PageId.{PageId}
use Rattle.trail.specs.declared.event.Dirty.{Dirty}
use Rattle.trail.specs.declared.event.Entry.{Entry}
use Rattle.trail.specs.declared.event.Event.{Event}
use Rattle.trail.specs.declared.event.Event.TheVariants as event
use Rattle.trail.specs.Kinds.{write_in}
use Rattle.trail.specs.Dirt.{dirty, dirt_of}

-- a dirty page was written with the end LSN of its last change, and the log was durable up to there at least
pub record IsCoveredWrite (h : List Entry) (p : PageId) (lsn upto : ℕ) : Type 0 where
  pub dirt : Dirty
  pub is_dirty : dirt_of (dirty h) p ≡ Some dirt
  pub newest : lsn ≡ dirt.newest
  pub logged : lsn ≤ upto

abbrev pub IsCovered : List Entry → Event → Type 0
IsCovered h (event.Entry e) = IfSome (write_in e.kind) (λ w. IsCoveredWrite h w.page w.lsn w.upto)
IsCovered h (event.Receipt r) = ⊤
