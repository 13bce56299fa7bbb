use Rattle.std.proofs.Common.{◌∙◌, set, Some, None, sym, subst, arith}
use Rattle.page_hash.specs.View.{page_in, IsRehomed}
use Rattle.page_hash.specs.Cells.{with_page}
use Rattle.page_hash.proofs.Filed.{filed_as}
use Rattle.page_hash.proofs.Homes.{replaced_seen}
use Rattle.page_hash.proofs.hash.PageHash.replace.Goals as goal

pub refile-requires-clause-filed : goal.refile-requires-clause-filed
refile-requires-clause-filed c =
    let m = replaced_seen c.self.inside.pages.items c.args.self.now c.args.page c.in-Some.old c.args.new c.find.result c.self.view_is c.self.invariant.apart c.find.ensures c.in-Some.is c.requires.room c.requires.frame in
    (page_in c.self.inside.pages.items, c.self.invariant.filed, m.out, m.free)

pub invariant_of-self : goal.invariant_of-self
invariant_of-self c =
    let k = c.self.invariant in
    let pages = c.self.inside.pages.items in
    let m = replaced_seen c.self.inside.pages.items c.args.self.now c.args.page c.in-Some.old c.args.new c.find.result c.self.view_is c.self.invariant.apart c.find.ensures c.in-Some.is c.requires.room c.requires.frame in
    let e = c.refile.ensures in
    record {
      some = omega (arith, k.some, e.cells, c.self.inside.cells.ok.0, c.refile.new.cells.ok.0);
      fits = omega (arith, k.fits, m.long);
      nodes = e.nodes ∙ k.nodes ∙ sym m.long;
      apart = m.apart;
      filed = filed_as c.refile.new.nodes c.refile.new.cells.items (with_page c.args.new (Some c.args.page) (with_page c.in-Some.old None (page_in pages)))
          (page_in (set (set pages c.in-Some.old None) c.args.new (Some c.args.page))) m.tags (e.filed (page_in pages) k.filed m.out m.free);
    }

pub returns : goal.returns
returns c =
    let m = replaced_seen c.self.inside.pages.items c.args.self.now c.args.page c.in-Some.old c.args.new c.find.result c.self.view_is c.self.invariant.apart c.find.ensures c.in-Some.is c.requires.room c.requires.frame in
    subst (λ xs. IsRehomed xs (set (set c.self.inside.pages.items c.in-Some.old None) c.args.new (Some c.args.page)) c.args.page (Some c.args.new)) c.self.view_is m.map_is
