use Rattle.desk.proofs.Behind.{at_rest}
use Rattle.desk.proofs.desk.clean_disk_holds_the_values.Goals as goal

pub returns : goal.returns
returns g c = λ o desk frames behind none p inside. at_rest g.D.PageDisk.seen o desk frames behind none p inside
