use Rattle.std.proofs.Common.{◌∷◌, [], arith}
use Rattle.std.proofs.lemmas.List.{length-append}
use Rattle.dump_load.proofs.Lines.{ended_text, ended_cut, typed_last}
use Rattle.dump_load.proofs.text.a_dump_reads_back.Goals as goal

pub returns-clause-whole : goal.returns-clause-whole
returns-clause-whole c = λ ids typed few. record { typed = typed; text = ended_text ids; few = few }

pub returns-clause-cut : goal.returns-clause-cut
returns-clause-cut c = λ ids last typed few.
    record { typed = typed; text = ended_cut ids last (typed_last ids last typed); few = omega (arith, few, length-append ids (last ∷ [])) }
