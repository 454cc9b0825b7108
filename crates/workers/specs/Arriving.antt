-- What comes of an accept.
use Rattle.std.specs.Prelude.{ℕ}
use Rattle.workers.specs.declared.doorway.Arrival.{Arrival}
use Rattle.workers.specs.declared.doorway.Arrival.TheVariants as arrivals

abbrev pub IfArrived : {L : Type 0} → Arrival L → (L → Type 0) → Type 0
IfArrived (arrivals.Link link) Is = Is link
IfArrived arrivals.Nobody Is = Unit {0}
IfArrived arrivals.Starved Is = Unit {0}
IfArrived arrivals.Over Is = Unit {0}

-- how many links came
abbrev pub arrived_links : {L : Type 0} → Arrival L → ℕ
arrived_links (arrivals.Link link) = 1
arrived_links arrivals.Nobody = 0
arrived_links arrivals.Starved = 0
arrived_links arrivals.Over = 0
