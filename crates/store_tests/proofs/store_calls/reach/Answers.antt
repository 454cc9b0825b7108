use Rattle.std.proofs.Common.{subst, Option, IfSome}
use Rattle.js_base.specs.declared.spot.Spot.{Spot}
use Rattle.stream_store.specs.Placing.{IsMessageSpot}
use Rattle.store_tests.proofs.store_calls.reach.Goals as goal

pub reach-requires-clause-spot : goal.reach-requires-clause-spot
reach-requires-clause-spot c = subst (λ (spot : Option Spot). IfSome spot IsMessageSpot) c.in-Some.is c.in_ok-spot.ensures.spot
