use Rattle.std.proofs.Common.{◌∙◌, ◌++◌, ◌∷◌, [], ap, arith}
use Rattle.frame_book.specs.Inside.{lists_of}
use Rattle.frame_book.proofs.Turns.{free_more}
use Rattle.page_ids.specs.FrameLists.{FrameLists}
use Rattle.frame_book.proofs.moves.put_back.Goals as goal

pub loop-i-preserved : goal.loop-i-preserved
loop-i-preserved c =
    let was = c.loop-i.invariant in
    let told = c.free_one.ensures in record {
      freed_so = free_more c.loop-i.i (lists_of c.args.free.now c.args.withdrawn.now) (lists_of c.free_one.new.free c.free_one.new.withdrawn)
          (omega (arith, c.loop-i-test.true, c.len-i-end.ensures))
          (λ x rest e. told.moved x rest (ap (λ (l : FrameLists). l.withdrawn) was.freed_so ∙ e)
          ∙ ap (λ (l : FrameLists). let m : FrameLists = record { free = l.free ++ x ∷ []; withdrawn = rest } in m) was.freed_so);
      still = told.still;
      rooms = (told.rooms.0 ∙ was.rooms.0, told.rooms.1 ∙ was.rooms.1);
    }
