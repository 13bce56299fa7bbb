use Rattle.std.proofs.Common.{◌∷◌, length, ap, arith}
use Rattle.std.proofs.lemmas.List.{length-append}
use Rattle.link_lists.proofs.Times.{placed}
use Rattle.link_lists.proofs.Lists.{chain_is, len_is, has, cut, longer, seen_then, kept_then}
use Rattle.link_lists.proofs.index_list.IndexList.insert_before.Goals as goal

pub insert_before-requires-clause-present : goal.insert_before-requires-clause-present
insert_before-requires-clause-present c = has c.self.view_is c.self.invariant c.args.at c.requires.present

pub overflow_add-self : goal.overflow_add-self
overflow_add-self c =
    let t = placed c.args.at c.args.self.now.items c.requires.present in
    omega (
      arith,
      longer c.self.view_is c.self.invariant (c.insert_before.ensures.list t.0 t.1 (cut c.self.view_is c.self.invariant t.2))
          (omega (arith, ap length t.2, length-append t.0 (c.args.at ∷ t.1), length-append t.0 (c.args.x ∷ c.args.at ∷ t.1)))
          (c.insert_before.ensures.others c.args.self.now.items (chain_is c.self.view_is c.self.invariant)).nodes,
    )

pub returns : goal.returns
returns c = λ front back e.
    seen_then c.self.view_is c.self.invariant (c.insert_before.ensures.list front back (cut c.self.view_is c.self.invariant e)) (c.insert_before.ensures.others c.args.self.now.items (chain_is c.self.view_is c.self.invariant)).nodes

pub invariant_of-self : goal.invariant_of-self
invariant_of-self c =
    let t = placed c.args.at c.args.self.now.items c.requires.present in
    kept_then c.self.view_is c.self.invariant (c.insert_before.ensures.list t.0 t.1 (cut c.self.view_is c.self.invariant t.2)) (c.insert_before.ensures.others c.args.self.now.items (chain_is c.self.view_is c.self.invariant)).nodes
    (omega (arith, len_is c.self.view_is c.self.invariant, ap length t.2, length-append t.0 (c.args.at ∷ t.1), length-append t.0 (c.args.x ∷ c.args.at ∷ t.1)))
