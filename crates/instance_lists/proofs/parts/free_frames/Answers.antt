use Rattle.std.proofs.Common.{◌∷◌, ◌++◌, [], List, ℕ, ap, ◌∙◌, sym, arith}
use Rattle.instance_lists.proofs.ListsNew.{rising_more}
use Rattle.instance_lists.proofs.parts.free_frames.Goals as goal

pub loop-frame-preserved : goal.loop-frame-preserved
loop-frame-preserved c =
    let frame = c.loop-frame.frame in
    let was = c.loop-frame.invariant in
    let pushed = c.push_back_reserved.ensures in record {
      items = pushed.items ∙ ap (λ (l : List ℕ). l ++ frame ∷ []) was.items ∙ sym (rising_more frame);
      len = omega (arith, pushed.len, was.len);
      room = omega (arith, pushed.capacity, was.room);
    }
