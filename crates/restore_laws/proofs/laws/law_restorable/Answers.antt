use Rattle.restore_laws.proofs.Restorable.{restorable_run, restorable_event, restorable_delivery, restorable_empty, restorable_lasting}
use Rattle.restore_laws.proofs.laws.law_restorable.Goals as goal

pub returns : goal.returns
returns c = record { law = restorable_run; event = restorable_event; delivery = restorable_delivery; empty = restorable_empty; lasting = restorable_lasting }
