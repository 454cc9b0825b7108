use Rattle.effects.proofs.Rising.{in_time, in_time_sent}
use Rattle.effects.proofs.laws.law_in_time.Goals as goal

pub returns-clause-events : goal.returns-clause-events
returns-clause-events c = in_time

pub returns-clause-deliveries : goal.returns-clause-deliveries
returns-clause-deliveries c = in_time_sent
