use Rattle.record_laws.proofs.Allowing.{together}
use Rattle.record_laws.proofs.Recording.{event_records, delivery_records}
use Rattle.record_laws.proofs.laws.law_records.Goals as goal

pub returns : goal.returns
returns c = record { events = event_records; deliveries = delivery_records; together = together }
