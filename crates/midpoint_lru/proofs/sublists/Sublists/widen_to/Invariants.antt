use Rattle.std.proofs.Common.{◌≡◌, ◌-◌, ◌≤◌, max}
use Rattle.midpoint_lru.specs.Parts.{Parts}
use Rattle.midpoint_lru.proofs.sublists.Sublists.widen_to.Given as goal

-- as many are old as at first, or more but no more than asked for
abbrev pub invariant-loop-self : goal.invariant-loop-self
invariant-loop-self l = record {
  rest : ◌≡◌ {A = Parts} l.self (record l.fn.self { old_len = l.self.old_len });
  first : l.fn.self.old_len ≤ l.self.old_len;
  most : l.self.old_len ≤ max l.fn.self.old_len l.old;
}

abbrev pub decreases-loop-self : goal.decreases-loop-self
decreases-loop-self l = l.old - l.self.old_len
