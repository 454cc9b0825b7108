use Rattle.nats_headers.proofs.Values.{one}
use Rattle.nats_headers.proofs.laws.law_one.Goals as goal

pub returns : goal.returns
returns c = record { one = one }
