use Rattle.redo_mark.proofs.Wholes.{bytes_of_all, record_fits, whole_record, fields_of}
use Rattle.redo_mark.proofs.reading.records_are_whole.Goals as goal

pub returns : goal.returns
returns c = λ bytes start change all limit. (
  λ r. (record_fits bytes start change (bytes_of_all bytes all) r, whole_record bytes start change (bytes_of_all bytes all) r),
  λ whole. fields_of bytes start change whole.0 limit whole.1,
)
