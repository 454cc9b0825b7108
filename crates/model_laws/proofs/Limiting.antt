-- Limits hold.
use Rattle.model_laws.specs.Laws.{LawLimits}
use Rattle.model_laws.proofs.Whole.{join}
use Rattle.model_laws.proofs.Within.{stays_within}
use Rattle.model_laws.proofs.Quotas.{deliveries_limited}
use Rattle.model_laws.proofs.Turns.{pulls_served}

pub law_limits : LawLimits
law_limits count old new entries s r = record {
  within = stays_within count old new entries (join old s) r;
  deliveries = λ name n c e. deliveries_limited name n count old entries new c (join old s) e r;
  pulls = λ name c e pull. pulls_served name count old entries new c e pull r;
}
