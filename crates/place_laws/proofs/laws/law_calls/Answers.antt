use Rattle.place_laws.proofs.Running.{law_calls}
use Rattle.place_laws.proofs.laws.law_calls.Goals as goal

pub returns : goal.returns
returns c start = record { law = law_calls c.P.Place.seen c.P.Place.holds c.P.Place.room_causes.outgrows_log }
