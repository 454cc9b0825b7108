use Rattle.nats_frames.proofs.Runs.{whole, broken}
use Rattle.nats_frames.proofs.laws.law_cut.Goals as goal

pub returns-clause-whole : goal.returns-clause-whole
returns-clause-whole c = whole

pub returns-clause-broken : goal.returns-clause-broken
returns-clause-broken c = broken
