use Rattle.nats_headers.proofs.Written.{statuses}
use Rattle.nats_headers.proofs.laws.law_status.Goals as goal

pub returns : goal.returns
returns c = record { status = statuses }
