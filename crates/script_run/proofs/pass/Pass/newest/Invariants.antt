use Rattle.std.proofs.Common.{◌≡◌, ◌≤◌, length, take, reverse}
use Rattle.trail.specs.Calls.{newest_fix}
use Rattle.script_run.proofs.pass.Pass.newest.Given as goal

abbrev pub invariant-loop-at : goal.invariant-loop-at
invariant-loop-at l = (l.at ≤ length l.self.fixed.items) × (newest_fix (reverse (take l.at l.self.fixed.items)) l.page ≡ newest_fix (reverse l.self.fixed.items) l.page)

abbrev pub decreases-loop-at : goal.decreases-loop-at
decreases-loop-at l = l.at
