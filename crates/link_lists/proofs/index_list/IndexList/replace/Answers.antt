use Rattle.std.proofs.Common.{◌∷◌, length, ap, arith}
use Rattle.std.proofs.lemmas.List.{length-append}
use Rattle.link_lists.proofs.Times.{placed}
use Rattle.link_lists.proofs.Lists.{chain_is, len_is, has, cut, seen_then, kept_then}
use Rattle.link_lists.proofs.index_list.IndexList.replace.Goals as goal

pub replace-requires-clause-present : goal.replace-requires-clause-present
replace-requires-clause-present c = has c.self.view_is c.self.invariant c.args.old c.requires.present

pub returns : goal.returns
returns c = λ front back e.
    seen_then c.self.view_is c.self.invariant (c.replace.ensures.list front back (cut c.self.view_is c.self.invariant e)) (c.replace.ensures.others c.args.self.now.items (chain_is c.self.view_is c.self.invariant)).nodes

pub invariant_of-self : goal.invariant_of-self
invariant_of-self c =
    let t = placed c.args.old c.args.self.now.items c.requires.present in
    kept_then c.self.view_is c.self.invariant (c.replace.ensures.list t.0 t.1 (cut c.self.view_is c.self.invariant t.2)) (c.replace.ensures.others c.args.self.now.items (chain_is c.self.view_is c.self.invariant)).nodes
    (omega (arith, len_is c.self.view_is c.self.invariant, ap length t.2, length-append t.0 (c.args.old ∷ t.1), length-append t.0 (c.args.new ∷ t.1)))
