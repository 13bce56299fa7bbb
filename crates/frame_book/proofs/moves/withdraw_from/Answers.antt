use Rattle.std.proofs.Common.{◌∙◌, ap, nat_le, arith}
use Rattle.frame_book.specs.Inside.{lists_of}
use Rattle.frame_book.proofs.Turns.{turn_more}
use Rattle.page_ids.specs.FrameLists as rule
use Rattle.page_ids.specs.FrameLists.{FrameLists}
use Rattle.frame_book.proofs.moves.withdraw_from.Goals as goal

pub loop-i-preserved : goal.loop-i-preserved
loop-i-preserved c =
    let was = c.loop-i.invariant in
    let told = c.turn.ensures in record {
      turned = turn_more c.args.first c.loop-i.i (lists_of c.args.free.now c.args.withdrawn.now) (lists_of c.turn.new.free c.turn.new.withdrawn)
          (omega (arith, c.loop-i-test.true, c.len-i-end.ensures))
          (λ x rest e. told.turned x rest (ap (λ (l : FrameLists). l.free) was.turned ∙ e)
          ∙ ap (λ (l : FrameLists). rule.given (nat_le c.args.first x) x (record { free = rest; withdrawn = l.withdrawn })) was.turned);
      still = told.still;
      rooms = (told.rooms.0 ∙ was.rooms.0, told.rooms.1 ∙ was.rooms.1);
    }
