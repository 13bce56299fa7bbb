use Rattle.instance_lists.proofs.Dirt.{length-dirty}
use Rattle.desk.proofs.desk.dirty_pages_are_few.Goals as goal

pub returns : goal.returns
returns c = length-dirty
