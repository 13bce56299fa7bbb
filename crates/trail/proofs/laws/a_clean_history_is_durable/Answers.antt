use Rattle.trail.proofs.Durable.{clean_durable}
use Rattle.trail.proofs.laws.a_clean_history_is_durable.Goals as goal

pub returns : goal.returns
returns c = clean_durable
