use Rattle.std.proofs.Common.{◌≡◌, ◌∙◌, ◌-◌, ◌*◌, Some, sym, subst, arith, ap}
use Rattle.std.proofs.lemmas.Bool.{eqb-true, eq-eqb}
use Rattle.frame_book.specs.View.{View, IsAllWithdrawn}
use Rattle.frame_book.specs.Inside.{view_of}
use Rattle.frame_book.proofs.Order.{all_by_length, length_by_all}
use Rattle.frame_book.proofs.book.Book.all_withdrawn.Goals as goal

pub returns-in-Some : goal.returns-in-Some
returns-in-Some c =
    let v = view_of c.self.inside in
    let from = c.in-Some.from in
    let opened : v.area ≡ Some from = c.in-Some.is in
    let all : c.first_of.result ≡ v.chunks * v.frames = c.first_of.ensures ∙ ap (λ (v : View). c.self.inside.chunks * v.frames) (sym c.self.view_is) in
    let first : c.first_of-in-Some.result ≡ from * v.frames = c.first_of-in-Some.ensures ∙ ap (λ (v : View). from * v.frames) (sym c.self.view_is) in (
      (λ t.
          let len = eqb-true c.len.result (c.first_of.result - c.first_of-in-Some.result) t in
          subst IsAllWithdrawn c.self.view_is (all_by_length v from c.self.invariant.order opened (omega (arith, len, c.len.ensures, all, first)))),
      (λ every.
          let len = length_by_all v from c.self.invariant.order opened (subst IsAllWithdrawn (sym c.self.view_is) every) in
          eq-eqb c.len.result (c.first_of.result - c.first_of-in-Some.result) (omega (arith, len, c.len.ensures, all, first))),
    )
