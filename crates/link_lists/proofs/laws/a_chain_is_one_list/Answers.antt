use Rattle.link_lists.proofs.Follow.{found, exists, present}
use Rattle.link_lists.proofs.laws.a_chain_is_one_list.Goals as goal

pub returns : goal.returns
returns c = record { found = found; exists = exists; present = present }
