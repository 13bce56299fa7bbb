use Rattle.std.proofs.Common.{◌∷◌, length, ap, arith}
use Rattle.std.proofs.lemmas.List.{length-append}
use Rattle.link_lists.proofs.Times.{placed}
use Rattle.link_lists.proofs.Lists.{chain_is, len_is, has, cut, seen_then, kept_then}
use Rattle.link_lists.proofs.index_list.IndexList.remove.Goals as goal

pub unlink-requires : goal.unlink-requires
unlink-requires c = record { present = has c.self.view_is c.self.invariant c.args.x c.requires }

pub returns : goal.returns
returns c = λ front back e.
    seen_then c.self.view_is c.self.invariant (c.unlink.ensures.list front back (cut c.self.view_is c.self.invariant e)) (c.unlink.ensures.others c.args.self.now.items (chain_is c.self.view_is c.self.invariant)).nodes

pub invariant_of-self : goal.invariant_of-self
invariant_of-self c =
    let t = placed c.args.x c.args.self.now.items c.requires in
    kept_then c.self.view_is c.self.invariant (c.unlink.ensures.list t.0 t.1 (cut c.self.view_is c.self.invariant t.2)) (c.unlink.ensures.others c.args.self.now.items (chain_is c.self.view_is c.self.invariant)).nodes
    (omega (arith, len_is c.self.view_is c.self.invariant, ap length t.2, length-append t.0 (c.args.x ∷ t.1), length-append t.0 (t.1)))
