use Rattle.nats_headers.proofs.Values.{headers, between}
use Rattle.nats_headers.proofs.laws.law_values.Goals as goal

pub returns-clause-header : goal.returns-clause-header
returns-clause-header c = headers

pub returns-clause-trimmed : goal.returns-clause-trimmed
returns-clause-trimmed c = between
