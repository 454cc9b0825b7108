use Rattle.timer_laws.proofs.Settling.{settled_run, settled_vacant, settled_event, settled_delivery, settled_lasting}
use Rattle.timer_laws.proofs.laws.law_settled.Goals as goal

pub returns : goal.returns
returns c = record { law = settled_run; vacant = settled_vacant; event = settled_event; delivery = settled_delivery; lasting = settled_lasting }
