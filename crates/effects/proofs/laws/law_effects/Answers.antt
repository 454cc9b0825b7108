use Rattle.effects.proofs.Leading.{law_events, law_deliveries}
use Rattle.effects.proofs.Unwritten.{law_no_records, law_no_records_sent}
use Rattle.effects.proofs.laws.law_effects.Goals as goal

pub returns-clause-events : goal.returns-clause-events
returns-clause-events c = law_events

pub returns-clause-deliveries : goal.returns-clause-deliveries
returns-clause-deliveries c = law_deliveries

pub returns-clause-no_records : goal.returns-clause-no_records
returns-clause-no_records c = law_no_records

pub returns-clause-no_records_sent : goal.returns-clause-no_records_sent
returns-clause-no_records_sent c = law_no_records_sent
