use Rattle.nats_headers.proofs.Told.{faults, one_fault, apart}
use Rattle.nats_headers.proofs.laws.law_faults.Goals as goal

pub returns-clause-fault : goal.returns-clause-fault
returns-clause-fault c = faults

pub returns-clause-one_fault : goal.returns-clause-one_fault
returns-clause-one_fault c = one_fault

pub returns-clause-apart : goal.returns-clause-apart
returns-clause-apart c = apart
