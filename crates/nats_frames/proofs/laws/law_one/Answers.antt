use Rattle.nats_frames.proofs.Runs.{one, one_fault, apart}
use Rattle.nats_frames.proofs.laws.law_one.Goals as goal

pub returns-clause-one : goal.returns-clause-one
returns-clause-one c = one

pub returns-clause-one_fault : goal.returns-clause-one_fault
returns-clause-one_fault c = one_fault

pub returns-clause-apart : goal.returns-clause-apart
returns-clause-apart c = apart
