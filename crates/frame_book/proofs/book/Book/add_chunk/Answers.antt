use Rattle.std.proofs.Common.{◌≡◌, ◌∙◌, ◌+◌, ◌*◌, ◌<◌, None, sym, ap, subst, arith}
use Rattle.std.proofs.Math.Nat.{le-max_right}
use Rattle.link_lists.specs.IndexLists.{IndexList}
use Rattle.page_ids.specs.FrameLists as rule
use Rattle.page_ids.specs.FrameLists.{FrameLists}
use Rattle.frame_book.specs.View.{View, IsInOrder, frames_of, grown}
use Rattle.frame_book.specs.Inside.{view_of, lists_of}
use Rattle.frame_book.proofs.Order.{order-grown, order-room, frames-grown}
use Rattle.frame_book.proofs.book.Book.add_chunk.Goals as goal

pub invariant_of-self : goal.invariant_of-self
invariant_of-self c =
    let a = c.self.inside in
    let b = c.self-2.inside in
    let v = c.args.self.now in
    let w = view_of b in
    let k = c.self-2.invariant in
    let first = c.first_of-first.result in
    -- memory was taken, and nothing else is changed so far
    let same = c.self-2.view_is ∙ c.in_ok-grow.ensures.ok in
    let frames_are : b.frames ≡ a.frames = ap (λ (v : View). v.frames) same ∙ ap (λ (v : View). v.frames) (sym c.self.view_is) in
    let chunks_are : b.chunks ≡ a.chunks = ap (λ (v : View). v.chunks) same ∙ ap (λ (v : View). v.chunks) (sym c.self.view_is) in
    let max_is : b.max ≡ a.max = ap (λ (v : View). v.max) same ∙ ap (λ (v : View). v.max) (sym c.self.view_is) in
    let none : w.area ≡ None = ap (λ (v : View). v.area) same ∙ ap (λ (v : View). v.area) (sym c.self.view_is) ∙ c.in_default.is in
    let less : w.chunks < w.max = omega (arith, c.if-self.false, chunks_are, max_is, k.order.most) in
    let first_is : first ≡ frames_of w = c.first_of-first.ensures ∙ ap (λ n. a.chunks * n) (ap (λ (v : View). v.frames) (sym c.self.view_is) ∙ sym frames_are) ∙ ap (λ n. n * b.frames) (sym chunks_are) in
    let added : lists_of c.append_rising.new.list b.withdrawn ≡ rule.grown (frames_of w) w.frames w.lists
    = ap (λ (l : IndexList). lists_of l b.withdrawn) c.append_rising.ensures
    ∙ ap (λ n. rule.grown n a.frames w.lists) first_is ∙ ap (λ n. rule.grown (frames_of w) n w.lists) (sym frames_are) in
    let room = ap (λ (v : View). v.room) same in record {
      order = subst (λ (l : FrameLists). IsInOrder (record w { chunks = w.chunks + 1; lists = l; room = b.withdrawn.room })) (sym added)
          (order-room (grown w) b.withdrawn.room (order-grown w k.order none less));
      enough = omega (arith, room, le-max_right v.room (first + a.frames), frames-grown b.chunks b.frames, first_is, frames_are);
      more = omega (arith, k.more, ap (λ (l : IndexList). l.room) c.append_rising.ensures);
    }
