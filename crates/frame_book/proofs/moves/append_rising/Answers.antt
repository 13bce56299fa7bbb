use Rattle.std.proofs.Common.{◌∙◌, ◌+◌, ◌∷◌, ◌++◌, [], refl, sym, ap, subst, arith}
use Rattle.link_lists.specs.IndexLists.{IndexList, IsNew}
use Rattle.link_lists.proofs.Times.{times-append}
use Rattle.page_ids.specs.Chunks.{rising}
use Rattle.frame_book.proofs.Times.{times-rising_above}
use Rattle.frame_book.proofs.Turns.{rising_more}
use Rattle.frame_book.proofs.moves.append_rising.Goals as goal

pub loop-i-preserved : goal.loop-i-preserved
loop-i-preserved c =
    let l = c.args.list.now in
    let first = c.args.first in
    let i = c.loop-i.i in
    c.push_back.ensures
    ∙ ap (λ (k : IndexList). let m : IndexList = record k { items = k.items ++ (first + i) ∷ [] } in m) c.loop-i.invariant
    ∙ ap (λ xs. let m : IndexList = record l { items = xs } in m) (rising_more l.items (l.items ++ rising first i) _ first i refl refl)

pub push_back-requires : goal.push_back-requires
push_back-requires c =
    let l = c.args.list.now in
    let first = c.args.first in
    let i = c.loop-i.i in
    let f = first + i in
    subst (λ (k : IndexList). IsNew k f) (sym c.loop-i.invariant) (record {
      room = omega (arith, c.requires.fits, c.loop-i-test.true);
      away = omega (arith, c.requires.away f (omega arith), times-append f l.items (rising first i), times-rising_above f first i (omega arith));
    })
