use Rattle.script_text.proofs.Printing.{reads_back}
use Rattle.script_text.proofs.printer.a_printed_script_reads_back.Goals as goal

pub returns : goal.returns
returns c = reads_back
