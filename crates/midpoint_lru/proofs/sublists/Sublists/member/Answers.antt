use Rattle.std.proofs.Common.{◌∙◌, Some, ap, sym}
use Rattle.midpoint_lru.specs.declared.sublists.Member.{Member}
use Rattle.midpoint_lru.specs.Sublists.{listed_as}
use Rattle.midpoint_lru.proofs.Kept.{within, found_is, mark_is, read_is}
use Rattle.midpoint_lru.proofs.sublists.Sublists.member.Goals as goal

pub index-requires : goal.index-requires
index-requires c = within c.self.inside c.args.self.now c.self.view_is c.self.invariant c.args.frame c.requires

pub returns-clause-found : goal.returns-clause-found
returns-clause-found c =
    found_is c.self.inside c.args.self.now c.self.view_is c.self.invariant c.args.frame c.requires
    ∙ ap (λ (m : Member). Some (listed_as c.args.frame m))
    (sym (read_is c.self.inside c.args.self.now c.self.view_is c.self.invariant c.args.frame c.requires _ c.index.ensures))

pub returns-clause-old : goal.returns-clause-old
returns-clause-old c =
    ap (λ (m : Member). m.is_old) (read_is c.self.inside c.args.self.now c.self.view_is c.self.invariant c.args.frame c.requires _ c.index.ensures)
    ∙ mark_is c.self.inside c.args.self.now c.self.view_is c.self.invariant c.args.frame c.requires
