use Rattle.std.proofs.Common.{rules, not}
use Rattle.std.proofs.lemmas.Fn.{filter_same}
use Rattle.watches.specs.View.{is_of}
use Rattle.watches.proofs.list.take_out.Goals as goal

pub returns-clause-left : goal.returns-clause-left
returns-clause-left c = filter_same _ (λ w. not (is_of c.args.caller c.args.page w)) _ (λ x b f' h. (search rules, search rules)) _ _ c.retain.ensures.filtered
