use Rattle.link_lists.proofs.Lists.{has}
use Rattle.link_lists.proofs.index_list.IndexList.next.Goals as goal

pub next-requires : goal.next-requires
next-requires c = record { present = has c.self.view_is c.self.invariant c.args.x c.requires }
