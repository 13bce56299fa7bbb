use Rattle.std.proofs.Common.{◌≡◌, ◌∙◌, ◌-◌, ◌==◌, not, nat_lt, Some, length, refl, ap, subst}
use Rattle.std.specs.Prelude.{slice_get}
use Rattle.page_ids.specs.Midpoint.{place_of, young_length}
use Rattle.midpoint_lru.specs.View.{View}
use Rattle.midpoint_lru.specs.Sublists.{listed_as}
use Rattle.midpoint_lru.proofs.lru.Lru.judge.Goals as goal

pub returns-clause-found : goal.returns-clause-found
returns-clause-found c =
    let x = listed_as c.args.frame c.member-member.result in
    subst (λ (w : View). slice_get w.order.listed (place_of ◌==◌ c.args.frame w.order.listed) ≡ Some x) c.self.view_is c.member-member.ensures.found

pub returns-clause-moves : goal.returns-clause-moves
returns-clause-moves c =
    let a = c.self.inside in
    let f = c.args.frame in
    let x = listed_as f c.member-member.result in
    let mark = subst (λ (w : View). c.member-member.result.is_old ≡ not (nat_lt (place_of ◌==◌ f w.order.listed) (young_length w.numbers (length w.order.listed)))) c.self.view_is
    (c.member-member.ensures.old ∙ ap (λ n. not (nat_lt (place_of ◌==◌ f a.parts.listed) (length a.parts.listed - n))) c.self.invariant.exact) in
    c.moves.ensures (place_of ◌==◌ f c.args.self.now.order.listed) x refl refl mark
