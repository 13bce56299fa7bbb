use Rattle.std.proofs.Common.{◌≡◌, ◌≤◌}
use Rattle.midpoint_lru.specs.Parts.{Parts}
use Rattle.midpoint_lru.proofs.sublists.Sublists.narrow_to.Given as goal

-- no fewer are old than asked for
abbrev pub invariant-loop-self : goal.invariant-loop-self
invariant-loop-self l = record {
  rest : ◌≡◌ {A = Parts} l.self (record l.fn.self { old_len = l.self.old_len });
  least : l.old ≤ l.self.old_len;
}

abbrev pub decreases-loop-self : goal.decreases-loop-self
decreases-loop-self l = l.self.old_len
