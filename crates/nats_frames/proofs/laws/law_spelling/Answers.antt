use Rattle.nats_frames.proofs.Runs.{read, spelled}
use Rattle.nats_frames.proofs.laws.law_spelling.Goals as goal

pub returns-clause-read : goal.returns-clause-read
returns-clause-read c = read

pub returns-clause-spelled : goal.returns-clause-spelled
returns-clause-spelled c = spelled
