use Rattle.script_text.proofs.Cuts.{cut_split, uncut_split}
use Rattle.script_text.proofs.reader.next_line.Goals as goal

pub returns-in-Some-clause-lines : goal.returns-in-Some-clause-lines
returns-in-Some-clause-lines c = cut_split 10 c.args.text.now c.in-Some.line.now c.in-Some.others.now c.in-Some.ensures

pub returns-in-None-clause-lines : goal.returns-in-None-clause-lines
returns-in-None-clause-lines c = uncut_split 10 c.args.text.now c.in-None.ensures
