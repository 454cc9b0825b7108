use Rattle.op_records.proofs.RecordsExact.{law_records}
use Rattle.op_records.proofs.laws.law_records.Goals as goal

pub returns : goal.returns
returns c = record { records = law_records }
