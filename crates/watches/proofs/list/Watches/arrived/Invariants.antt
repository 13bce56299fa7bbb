use Rattle.std.proofs.Common.{◌≡◌, ◌++◌, take, drop, map}
use Rattle.watches.specs.View.{come}
use Rattle.watches.proofs.list.Watches.arrived.Given as goal

abbrev pub invariant-loop-w : goal.invariant-loop-w
invariant-loop-w l = l.w-items ≡ map (come l.page) (take l.w-index l.fn.self) ++ drop l.w-index l.fn.self
