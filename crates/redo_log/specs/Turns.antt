-- What lies under the lock, and what a pass knows in its turn.
use Rattle.std.specs.Prelude.{◌≡◌, ℕ, ◌+◌, true, [], IfSome}
use Rattle.atomic_table.specs.Seated.{TableId}
use Rattle.redo_mark.specs.Device.{RedoSeen}
use Rattle.redo_mark.specs.Logs.{Seen, LogState, HasGrown, StaysGrown}
use Rattle.redo_log.specs.declared.view.Story.{Story}
use Rattle.redo_log.specs.declared.view.View.{View}
use Rattle.redo_log.specs.Story.{end_of}
use Rattle.redo_log.specs.Marks.{IsSoundStory}
use Rattle.redo_log.specs.Passes.{LogOf}

-- the story is that of a log that looks like this
pub record Agrees (s : Story) (seen : Seen) : Type 0 where
  pub opened : s.opened ≡ seen.opened
  pub end : end_of s ≡ seen.end
  pub durable : s.durable ≡ seen.durable
  pub faults : s.faults ≡ seen.faults
  pub bytes : IfSome seen.bytes (λ bytes. bytes ≡ s.bytes)

-- a view of the keeper that has seen the marks of the log
pub record IsTurn (v : View) (seen : Seen) : Type 0 where
  pub keeps : v.keeps ≡ true
  pub agrees : Agrees v.story seen
  pub sound : IsSoundStory v.story
  pub end : v.end ≡ seen.end
  pub durable : v.durable ≡ seen.durable
  pub faults : v.faults ≡ seen.faults

-- a log on its device, the cell of its marks, and the view that knows its whole story
pub record TailOf (R : Type 0) : Type 0 where
  pub state : LogState R
  pub cell : TableId
  pub keeper : View

module _ {R : Type 0} (seen : R → RedoSeen) where
  -- the log began so, on this device
  pub record BeganAs (log : LogOf R) (state : LogState R) : Type 0 where
    pub first : state.seen.first ≡ log.first
    pub opened : state.seen.opened ≡ log.first + (seen log.opening).opened
    pub grown : HasGrown state.seen (seen state.disk) (seen log.opening).told

  -- what lies under the lock of this log
  pub record IsTailOf (log : LogOf R) (t : TailOf R) : Type 0 where
    pub cell : t.cell ≡ log.log
    pub keeps : t.keeper.keeps ≡ true
    pub none : (t.keeper.share ≡ 0) × (t.keeper.pieces ≡ []) × (t.keeper.met ≡ 0)
    pub agrees : Agrees t.keeper.story t.state.seen
    pub began : BeganAs log t.state

  -- the log began as before
  pub record IsSameLog (old new : LogState R) : Type 0 where
    pub first : new.seen.first ≡ old.seen.first
    pub opened : new.seen.opened ≡ old.seen.opened
    pub grown : StaysGrown old.seen (seen old.disk) new.seen (seen new.disk)
