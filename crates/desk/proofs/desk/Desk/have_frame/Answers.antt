use Rattle.std.proofs.Common.{◌≡◌, ◌<◌, ℕ, Some, ap, ◌∙◌, sym, subst, arith}
use Rattle.page_ids.specs.declared.ids.PageId.{PageId}
use Rattle.trail.specs.Book.{book, frame_in_turn}
use Rattle.trail.specs.History.{home}
use Rattle.desk.specs.Moments.{moment_of}
use Rattle.desk.specs.State.{DeskWithRoom}
use Rattle.instance_lists.specs.Walk.{AreOrderly}
use Rattle.desk.proofs.Moments.{keeps_none, keeps_most, keeps_going}
use Rattle.desk.proofs.desk.Desk.have_frame.Goals as goal

pub evict-requires-clause-full : goal.evict-requires-clause-full
evict-requires-clause-full g c = λ κs within. record {
  orderly = subst (λ (x : DeskWithRoom g.row.D.Denot). AreOrderly x.state.config x.state.history) c.self.view_is c.next_frame.ensures.orderly;
  none_free = ap (λ (x : DeskWithRoom g.row.D.Denot). frame_in_turn (book x.state.config x.state.history)) (sym c.self.view_is) ∙ sym c.next_frame.ensures.next ∙ c.in-None.is;
  full = subst (λ (x : DeskWithRoom g.row.D.Denot). (f : ℕ) → f < x.state.config.frames → (p : PageId) × (home x.state.history p ≡ Some f)) c.self.view_is (c.next_frame.ensures.none c.in-None.is);
}

pub returns-in-Some-clause-keeps : goal.returns-in-Some-clause-keeps
returns-in-Some-clause-keeps g c =
    let m = moment_of g.F.Frames.seen g.R.RedoDisk.seen c.args.self.now c.args.frames.now c.args.redo.now in
    keeps_going g.D.PageDisk.seen 2 m m c.args.by (keeps_most g.D.PageDisk.seen 0 2 m m (omega arith) (keeps_none g.D.PageDisk.seen m c.requires.ready.rest))
