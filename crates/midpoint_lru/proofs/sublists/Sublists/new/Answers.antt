use Rattle.std.proofs.Common.{[], refl, ap, arith}
use Rattle.link_lists.specs.IndexLists.{IndexList}
use Rattle.midpoint_lru.proofs.sublists.Sublists.new.Goals as goal

pub invariant_of-result : goal.invariant_of-result
invariant_of-result c = record {
  young = [];
  old = [];
  are = record {
    whole = record { is = ap (λ (l : IndexList). l.items) c.new.ensures; once = λ f. omega arith };
    first = refl;
    young_marks = λ f there. absurd (omega arith);
    old_marks = λ f there. absurd (omega arith);
    there = λ f there. absurd (omega arith);
  };
  share = refl;
  room = omega (arith, ap (λ (l : IndexList). l.room) c.new.ensures);
}
