use Rattle.std.proofs.Common.{◌∙◌, drop, sym, ap, subst}
use Rattle.link_lists.specs.Grid.{times}
use Rattle.link_lists.specs.IndexLists.{IndexList}
use Rattle.frame_book.specs.Moves.{CanMove}
use Rattle.frame_book.proofs.Turns.{listed, can_go}
use Rattle.frame_book.proofs.moves.free_one.Goals as goal

pub push_back-requires : goal.push_back-requires
push_back-requires c = c.requires c.in-Some.frame (listed c.args.withdrawn.now c.args.free.now c.in-Some.frame (sym c.pop_front.ensures.front ∙ c.in-Some.is) c.requires)

pub returns-in-Some-clause-still : goal.returns-in-Some-clause-still
returns-in-Some-clause-still c =
    let x = c.in-Some.frame in
    let rest = c.pop_front.ensures.rest in
    let none = ap (λ (l : IndexList). times x l.items) (sym rest) ∙ c.in-Some.ensures.new.away in
    let can = can_go c.args.withdrawn.now c.args.free.now x (sym c.pop_front.ensures.front ∙ c.in-Some.is) c.requires none in
    subst (λ (l : IndexList). CanMove l c.push_back.new.self) (sym rest) (subst (λ (l : IndexList). CanMove (record c.args.withdrawn.now { items = drop 1 c.args.withdrawn.now.items }) l) (sym c.push_back.ensures) can)
