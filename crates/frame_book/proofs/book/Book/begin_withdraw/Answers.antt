use Rattle.std.proofs.Common.{◌≡◌, ◌∙◌, ◌*◌, ◌<◌, ◌≤◌, Some, None, sym, ap, subst, arith}
use Rattle.page_ids.specs.FrameLists as rule
use Rattle.page_ids.specs.FrameLists.{FrameLists}
use Rattle.frame_book.specs.View.{View, IsInOrder, withdrawing}
use Rattle.frame_book.specs.Inside.{view_of}
use Rattle.frame_book.proofs.Order.{order-room, order-withdrawing}
use Rattle.frame_book.proofs.book.Book.begin_withdraw.Goals as goal

pub invariant_of-self : goal.invariant_of-self
invariant_of-self c =
    let a = c.self.inside in
    let v = view_of a in
    let k = c.self.invariant in
    let from = c.args.from in
    let first : c.first_of-first.result ≡ from * a.frames = c.first_of-first.ensures ∙ ap (λ (v : View). from * v.frames) (sym c.self.view_is) in
    let none : v.area ≡ None = c.in_default.is in
    let high : from < v.chunks = omega (arith, c.requires, ap (λ (v : View). v.chunks) c.self.view_is) in
    let low : 1 ≤ from = omega (arith, c.if-from-eq0.false) in
    let told = c.withdraw_from.ensures in
    let moved = told.moved ∙ ap (λ n. rule.withdrawing n v.lists) first in record {
      order = subst (λ (l : FrameLists). IsInOrder (record v { area = Some from; lists = l; room = c.withdraw_from.new.withdrawn.room })) (sym moved)
          (order-room (withdrawing from v) c.withdraw_from.new.withdrawn.room (order-withdrawing v from k.order none low high));
      enough = omega (arith, k.enough, told.rooms.1);
      more = omega (arith, k.more, told.rooms.0, told.rooms.1);
    }
