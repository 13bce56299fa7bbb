-- The history of a desk: the entry that comes next, and what the lists see of the desk.
use Rattle.std.specs.Prelude.{ℕ, List, ◌+◌}
use Rattle.trail.specs.declared.event.Kind.{Kind}
use Rattle.trail.specs.declared.event.Entry.{Entry}
use Rattle.trail.specs.Trails.{mark}
use Rattle.instance_lists.specs.Ledger.{Ledger}
use Rattle.desk.specs.State.{DeskWithRoom}
use Rattle.desk.specs.declared.calls.Caller.{Caller}

-- the caller's entry at the next place of a history
abbrev pub entry_behind : ℕ → List Entry → Caller → Kind → Entry
entry_behind first h by k = record { place = mark first h + 1; caller = by.pass; number = by.number; kind = k }

-- what its lists see of a desk: they grow only by such entries
abbrev pub ledger_of : {D : Type 0} → DeskWithRoom D → Ledger
ledger_of desk = record { config = desk.state.config; history = desk.state.history; room = desk.room }
