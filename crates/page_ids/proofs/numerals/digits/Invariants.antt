use Rattle.std.proofs.Common.{◌≡◌, ◌≤◌, ◌+◌, drop}
use Rattle.page_ids.specs.Numerals.{digits_after}
use Rattle.page_ids.proofs.numerals.digits.Given as goal

abbrev pub invariant-loop-c : goal.invariant-loop-c
invariant-loop-c l = record {
  reads : digits_after (l.fn.max + 1) l.n (drop l.c-index l.text) ≡ digits_after (l.fn.max + 1) 0 l.text;
  small : l.n ≤ l.fn.max;
}
