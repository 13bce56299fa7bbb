use Rattle.std.proofs.Common.{◌≤◌, ◌∙◌, ◌∷◌, [], ℕ, List, drop, sym, subst, arith}
use Rattle.link_lists.specs.Grid.{times}
use Rattle.link_lists.specs.IndexLists.{IndexList, IsNew}
use Rattle.link_lists.proofs.Times.{first_is, times_at, none_behind}
use Rattle.link_lists.proofs.index_list.IndexList.pop_front.Goals as goal

pub returns-clause-rest : goal.returns-clause-rest
returns-clause-rest c =
    let l = c.args.self.now in
    c.remove.ensures [] (drop 1 l.items) (first_is l.items c.in_ok-x.x (sym c.front.ensures ∙ c.in_ok-x.was))

pub returns-clause-new : goal.returns-clause-new
returns-clause-new c =
    let l = c.args.self.now in
    let x = c.in_ok-x.x in
    let rest = drop 1 l.items in
    let order = c.stands_in_order.ensures in
    let starts = first_is l.items x (sym c.front.ensures ∙ c.in_ok-x.was) in
    let once : times x (x ∷ rest) ≤ 1 = subst (λ (xs : List ℕ). times x xs ≤ 1) starts (order.once x) in
    let there = subst (λ (xs : List ℕ). 1 ≤ times x xs) (sym starts) (omega (arith, times_at x rest)) in
    subst (λ (k : IndexList). IsNew k x) (sym (returns-clause-rest c)) (record { room = order.below x there; away = none_behind x [] rest once })
