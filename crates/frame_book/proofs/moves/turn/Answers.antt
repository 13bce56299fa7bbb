use Rattle.std.proofs.Common.{◌∙◌, ◌++◌, ◌∷◌, [], drop, sym, ap, subst}
use Rattle.link_lists.specs.Grid.{times}
use Rattle.link_lists.specs.IndexLists.{IndexList}
use Rattle.frame_book.specs.Moves.{CanMove}
use Rattle.frame_book.proofs.Turns.{listed, can_go, can_stay}
use Rattle.frame_book.proofs.moves.turn.Goals as goal

pub push_back-requires : goal.push_back-requires
push_back-requires c = c.requires c.in-Some.frame (listed c.args.free.now c.args.withdrawn.now c.in-Some.frame (sym c.pop_front.ensures.front ∙ c.in-Some.is) c.requires)

pub returns-then-first-frame-clause-still : goal.returns-then-first-frame-clause-still
returns-then-first-frame-clause-still c =
    let x = c.in-Some.frame in
    let rest = c.pop_front.ensures.rest in
    let none = ap (λ (l : IndexList). times x l.items) (sym rest) ∙ c.in-Some.ensures.new.away in
    let can = can_go c.args.free.now c.args.withdrawn.now x (sym c.pop_front.ensures.front ∙ c.in-Some.is) c.requires none in
    subst (λ (l : IndexList). CanMove l c.push_back.new.self) (sym rest) (subst (λ (l : IndexList). CanMove (record c.args.free.now { items = drop 1 c.args.free.now.items }) l) (sym c.push_back.ensures) can)

pub returns-else-first-frame-clause-still : goal.returns-else-first-frame-clause-still
returns-else-first-frame-clause-still c =
    let x = c.in-Some.frame in
    let w = c.args.withdrawn.now in
    let can = can_stay c.args.free.now w x (sym c.pop_front.ensures.front ∙ c.in-Some.is) c.requires in
    subst (λ (l : IndexList). CanMove l w) (sym c.push_back-else-first-frame.ensures)
    (subst (λ (l : IndexList). CanMove (record l { items = l.items ++ x ∷ [] }) w) (sym c.pop_front.ensures.rest) can)
