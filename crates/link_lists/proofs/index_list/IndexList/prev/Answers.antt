use Rattle.link_lists.proofs.Lists.{has}
use Rattle.link_lists.proofs.index_list.IndexList.prev.Goals as goal

pub prev-requires : goal.prev-requires
prev-requires c = record { present = has c.self.view_is c.self.invariant c.args.x c.requires }
