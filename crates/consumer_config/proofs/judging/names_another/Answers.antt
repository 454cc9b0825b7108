use Rattle.std.proofs.Common.{sym}
use Rattle.consumer_config.proofs.judging.names_another.Goals as goal

pub returns-else-durable : goal.returns-else-durable
returns-else-durable c = record { value = rw (sym c.in_ok-durable.ensures.value, c.if-durable.false) c.in_ok-short.ensures.value }
