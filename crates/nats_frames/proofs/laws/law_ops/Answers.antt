use Rattle.nats_frames.proofs.Runs.{join, ops}
use Rattle.nats_frames.proofs.laws.law_ops.Goals as goal

pub returns-clause-one : goal.returns-clause-one
returns-clause-one c = ops

pub returns-clause-join : goal.returns-clause-join
returns-clause-join c = join
