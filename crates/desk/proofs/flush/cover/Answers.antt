use Rattle.std.proofs.Common.{◌≡◌, ◌≤◌, ap, Err, inl, inr, ⊎_elim}
use Rattle.std.proofs.lemmas.Bool.{cases_lt}
use Rattle.desk.proofs.flush.cover.Goals as goal

pub returns-in-Err-Fault-clause-fault : goal.returns-in-Err-Fault-clause-fault
returns-in-Err-Fault-clause-fault g c =
    let fault = (c.in-Err-Fault.ensures.fault c.in-Err-Fault.before c.in-Err-Fault.after (ap Err c.in-Err-Fault.field-0-is)).0 in
    record { first = fault.first; last = fault.last; rose = fault.rose }

pub returns-in-Ok-clause-log : goal.returns-in-Ok-clause-log
returns-in-Ok-clause-log g c =
    let is = c.cover.ensures in
    let same : c.args.lsn ≤ c.args.redo.now.seen.durable → c.cover.new.self.seen.durable ≡ c.args.redo.now.seen.durable = λ le. ap (λ r. r.seen.durable) (is.idle le).0 in
    record {
      later = is.later;
      end = is.end;
      mark = ⊎_elim (λ lt. inr (c.in-Ok.ensures.all lt)) (λ le. inl (same le)) (cases_lt c.args.redo.now.seen.durable c.args.lsn);
      opening = is.opening;
      kept = is.kept;
    }

pub returns-in-Err-Fault-clause-log : goal.returns-in-Err-Fault-clause-log
returns-in-Err-Fault-clause-log g c =
    let is = c.cover.ensures in
    let durable : c.cover.new.self.seen.durable ≡ c.args.redo.now.seen.durable = ap (λ s. s.durable) c.in-Err-Fault.ensures.err in
    record { later = is.later; end = is.end; mark = inl durable; opening = is.opening; kept = is.kept }
