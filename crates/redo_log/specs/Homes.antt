-- Which log it is whose tail a lock keeps.
use Rattle.redo_log.specs.declared.tail.Home.{Home}
use Rattle.redo_log.specs.Passes.{LogOf}

abbrev pub log_of : {R : Type 0} → Home R → LogOf R
log_of home = record { log = home.marks.value; first = home.first; opening = home.opening.value }
