use Rattle.std.proofs.Common.{◌∷◌, [], arith}
use Rattle.std.proofs.lemmas.List.{length-append}
use Rattle.link_lists.proofs.Lists.{chain_is, len_is, longer, seen_then, kept_then}
use Rattle.link_lists.proofs.index_list.IndexList.push_back.Goals as goal

pub overflow_add-self : goal.overflow_add-self
overflow_add-self c =
    let chain = chain_is c.self.view_is c.self.invariant in
    omega (arith, longer c.self.view_is c.self.invariant (c.push_back.ensures.list c.args.self.now.items chain) (length-append c.args.self.now.items (c.args.x ∷ [])) (c.push_back.ensures.others c.args.self.now.items chain).nodes)

pub returns : goal.returns
returns c = seen_then c.self.view_is c.self.invariant (c.push_back.ensures.list c.args.self.now.items (chain_is c.self.view_is c.self.invariant)) (c.push_back.ensures.others c.args.self.now.items (chain_is c.self.view_is c.self.invariant)).nodes

pub invariant_of-self : goal.invariant_of-self
invariant_of-self c = kept_then c.self.view_is c.self.invariant (c.push_back.ensures.list c.args.self.now.items (chain_is c.self.view_is c.self.invariant)) (c.push_back.ensures.others c.args.self.now.items (chain_is c.self.view_is c.self.invariant)).nodes (omega (arith, len_is c.self.view_is c.self.invariant, length-append c.args.self.now.items (c.args.x ∷ [])))
