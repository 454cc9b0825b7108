use Rattle.nats_frames.proofs.Runs.{faulty, partial}
use Rattle.nats_frames.proofs.laws.law_reading.Goals as goal

pub returns-clause-faulty : goal.returns-clause-faulty
returns-clause-faulty c = faulty

pub returns-clause-partial : goal.returns-clause-partial
returns-clause-partial c = partial
