use Rattle.std.proofs.Common.{◌≡◌, ◌≢◌, ◌∙◌, ◌++◌, true, false, length, Some, sym, ap, subst, arith}
use Rattle.page_hash.specs.Cells.{IsCell}
use Rattle.page_hash.specs.View.{page_in, is_page, home}
use Rattle.page_hash.proofs.Filed.{read_of}
use Rattle.page_hash.proofs.Homes.{home_is, none_home, is_this, is_its_page}
use Rattle.page_hash.proofs.Follow.{passing_start, passing_next, shrinks, met, none_left}
use Rattle.page_hash.proofs.hash.PageHash.find.Goals as goal

pub loop-at-init : goal.loop-at-init
loop-at-init c =
    let a = c.self.inside in
    let cells = a.cells.items in
    let read = read_of cells c.args.page _ _ _ (c.len.ensures ∙ a.cells.ok.0) c.cell_of.ensures.cell c.cell_of.ensures.inside c.index-cell.ensures in
    passing_start a.nodes c.index-cell.result.now (length cells) a.pages.items c.args.page c.front-at.result
    (subst (λ i. IsCell a.nodes c.index-cell.result.now (page_in a.pages.items) (length cells) i) read.own (c.self.invariant.filed c.cell_of.result c.index-cell.result.now read.there))
    c.front-at.ensures

pub has-requires : goal.has-requires
has-requires c =
    let a = c.self.inside in
    let p = c.loop-at.invariant in
    let here = met a.nodes c.index-cell.result.now (length a.cells.items) a.pages.items c.args.page c.loop-at.at p c.in-Some.frame c.in-Some.is in
    let below = c.a_chain_is_one_list.ensures.exists a.nodes c.index-cell.result.now (p.front ++ p.back) c.in-Some.frame p.chain_is here in
    omega (arith, below, c.self.invariant.nodes, ap length c.self.view_is)

pub loop-at-smaller : goal.loop-at-smaller
loop-at-smaller c =
    let a = c.self.inside in
    shrinks a.nodes c.index-cell.result.now (length a.cells.items) a.pages.items c.args.page c.loop-at.at c.loop-at.invariant c.in-Some.frame c.next-at.result c.in-Some.is
    (λ xs k. c.a_chain_is_one_list.ensures.found a.nodes c.index-cell.result.now xs k) c.next-at.ensures

pub loop-at-preserved : goal.loop-at-preserved
loop-at-preserved c =
    let a = c.self.inside in
    let away : page_in a.pages.items c.in-Some.frame ≢ Some c.args.page =
    λ e. (let bad : true ≡ false = sym (is_this c.args.page (page_in a.pages.items c.in-Some.frame) e) ∙ ap (λ pages. is_page c.args.page (page_in pages c.in-Some.frame)) c.self.view_is ∙ sym c.has.ensures ∙ c.if-has.false in absurd (cc)) in
    passing_next a.nodes c.index-cell.result.now (length a.cells.items) a.pages.items c.args.page c.loop-at.at c.loop-at.invariant c.in-Some.frame c.next-at.result c.in-Some.is
    away c.next-at.ensures

pub returns-then-has : goal.returns-then-has
returns-then-has c =
    let a = c.self.inside in
    let here : page_in a.pages.items c.in-Some.frame ≡ Some c.args.page =
    is_its_page c.args.page (page_in a.pages.items c.in-Some.frame) (ap (λ pages. is_page c.args.page (page_in pages c.in-Some.frame)) c.self.view_is ∙ sym c.has.ensures ∙ c.if-has.true) in
    sym (ap (λ pages. home pages c.args.page) (sym c.self.view_is) ∙ home_is a.pages.items c.args.page c.in-Some.frame c.self.invariant.apart here)

pub returns : goal.returns
returns c =
    let a = c.self.inside in
    sym (ap (λ pages. home pages c.args.page) (sym c.self.view_is)
    ∙ none_home a.pages.items c.args.page (none_left a.nodes c.index-cell.result.now (length a.cells.items) a.pages.items c.args.page c.loop-at.at c.loop-at.invariant c.in_default.is))
