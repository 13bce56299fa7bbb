use Rattle.flush_list.proofs.Kept.{is_in, before_seen}
use Rattle.flush_list.proofs.flush.Flush.before.Goals as goal

pub prev-requires : goal.prev-requires
prev-requires c = is_in c.self.inside c.args.self.now c.self.view_is c.args.frame c.requires

pub returns-clause-next : goal.returns-clause-next
returns-clause-next c = (before_seen c.self.inside c.args.self.now c.self.view_is c.args.frame c.prev.result c.requires c.stands_in_order.ensures c.prev.ensures).0

pub returns-clause-step : goal.returns-clause-step
returns-clause-step c = (before_seen c.self.inside c.args.self.now c.self.view_is c.args.frame c.prev.result c.requires c.stands_in_order.ensures c.prev.ensures).1
