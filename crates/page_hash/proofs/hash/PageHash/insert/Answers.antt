use Rattle.std.proofs.Common.{◌∙◌, ◌<◌, length, set, Some, sym, ap, subst, arith}
use Rattle.std.proofs.lemmas.List.{length-set}
use Rattle.page_hash.specs.View.{page_in, home, IsUnused, IsRehomed}
use Rattle.page_hash.specs.Cells.{with_page}
use Rattle.page_hash.proofs.Filed.{filed_as}
use Rattle.page_hash.proofs.Homes.{unused, inserted, tags_set}
use Rattle.page_hash.proofs.hash.PageHash.insert.Goals as goal

pub file-requires-clause-filed : goal.file-requires-clause-filed
file-requires-clause-filed c =
    let pages = c.self.inside.pages.items in
    (page_in pages, c.self.invariant.filed, unused pages c.args.frame c.self.invariant.apart (subst (λ xs. IsUnused xs c.args.frame) (sym c.self.view_is) c.requires.frame))

pub invariant_of-self : goal.invariant_of-self
invariant_of-self c =
    let a = c.self.inside in
    let k = c.self.invariant in
    let pages = a.pages.items in
    let frame = c.args.frame in
    let page = c.args.page in
    let there : frame < length pages = omega (arith, c.requires.room, ap length c.self.view_is) in
    let free = unused pages frame k.apart (subst (λ xs. IsUnused xs frame) (sym c.self.view_is) c.requires.frame) in
    let away = ap (λ xs. home xs page) c.self.view_is ∙ c.requires.page in
    let e = c.file.ensures in
    record {
      some = omega (arith, k.some, e.cells, a.cells.ok.0, c.file.new.cells.ok.0);
      fits = omega (arith, k.fits, length-set pages frame (Some page));
      nodes = e.nodes ∙ k.nodes ∙ sym (length-set pages frame (Some page));
      apart = (inserted pages page frame there k.apart away free).apart;
      filed = filed_as c.file.new.nodes c.file.new.cells.items (with_page frame (Some page) (page_in pages)) (page_in (set pages frame (Some page)))
          (tags_set pages frame (Some page) there) (e.filed (page_in pages) k.filed free);
    }

pub returns : goal.returns
returns c =
    let k = c.self.invariant in
    let pages = c.self.inside.pages.items in
    let there : c.args.frame < length pages = omega (arith, c.requires.room, ap length c.self.view_is) in
    let free = unused pages c.args.frame k.apart (subst (λ xs. IsUnused xs c.args.frame) (sym c.self.view_is) c.requires.frame) in
    let away = ap (λ xs. home xs c.args.page) c.self.view_is ∙ c.requires.page in
    subst (λ xs. IsRehomed xs (set pages c.args.frame (Some c.args.page)) c.args.page (Some c.args.frame)) c.self.view_is (inserted pages c.args.page c.args.frame there k.apart away free).map_is
