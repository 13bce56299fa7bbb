use Rattle.std.proofs.Common.{◌≡◌, ◌∙◌, set, Some, None, sym, ap, subst, arith}
use Rattle.std.proofs.lemmas.List.{length-set}
use Rattle.page_hash.specs.View.{page_in, home, IsRehomed}
use Rattle.page_hash.specs.Cells.{with_page}
use Rattle.page_hash.proofs.Filed.{filed_as}
use Rattle.page_hash.proofs.Homes.{at_home, inside, removed, tags_set}
use Rattle.page_hash.proofs.hash.PageHash.remove.Goals as goal

pub unfile-requires-clause-filed : goal.unfile-requires-clause-filed
unfile-requires-clause-filed c =
    let pages = c.self.inside.pages.items in
    let there : home pages c.args.page ≡ Some c.in-Some.frame = ap (λ xs. home xs c.args.page) c.self.view_is ∙ sym c.find.ensures ∙ c.in-Some.is in
    (page_in pages, c.self.invariant.filed, at_home pages c.args.page c.in-Some.frame there)

pub invariant_of-self : goal.invariant_of-self
invariant_of-self c =
    let a = c.self.inside in
    let k = c.self.invariant in
    let pages = a.pages.items in
    let frame = c.in-Some.frame in
    let page = c.args.page in
    let there : home pages page ≡ Some frame = ap (λ xs. home xs page) c.self.view_is ∙ sym c.find.ensures ∙ c.in-Some.is in
    let was = at_home pages page frame there in
    let e = c.unfile.ensures in
    record {
      some = omega (arith, k.some, e.cells, a.cells.ok.0, c.unfile.new.cells.ok.0);
      fits = omega (arith, k.fits, length-set pages frame None);
      nodes = e.nodes ∙ k.nodes ∙ sym (length-set pages frame None);
      apart = (removed pages page frame k.apart there).apart;
      filed = filed_as c.unfile.new.nodes c.unfile.new.cells.items (with_page frame None (page_in pages)) (page_in (set pages frame None))
          (tags_set pages frame None (inside pages frame page was)) (e.filed (page_in pages) k.filed was);
    }

pub returns : goal.returns
returns c =
    let pages = c.self.inside.pages.items in
    let there : home pages c.args.page ≡ Some c.in-Some.frame = ap (λ xs. home xs c.args.page) c.self.view_is ∙ sym c.find.ensures ∙ c.in-Some.is in
    subst (λ xs. IsRehomed xs (set pages c.in-Some.frame None) c.args.page None) c.self.view_is (removed pages c.args.page c.in-Some.frame c.self.invariant.apart there).map_is
