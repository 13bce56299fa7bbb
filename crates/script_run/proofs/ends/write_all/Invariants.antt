use Rattle.std.proofs.Common.{◌≡◌, ◌≤◌, ◌++◌, ◌-◌, ℕ, List, Some, length, take}
use Rattle.script_run.proofs.ends.write_all.Given as goal

abbrev pub invariant-loop-at : goal.invariant-loop-at
invariant-loop-at g l =
    (l.at ≤ length l.text) × ((held : List ℕ) → g.K.Sink.held l.fn.sink ≡ Some held → g.K.Sink.held l.sink ≡ Some (held ++ take l.at l.text))
    × (g.K.Sink.fault_count l.fn.sink ≤ g.K.Sink.fault_count l.sink)

abbrev pub decreases-loop-at : goal.decreases-loop-at
decreases-loop-at g l = length l.text - l.at
