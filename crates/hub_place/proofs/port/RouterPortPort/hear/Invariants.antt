use Rattle.hub_place.specs.Ports.{IsRouted, IsWorn}
use Rattle.desk_hold.proofs.Listeners.{HeardSoFar}
use Rattle.hub_place.proofs.port.RouterPortPort.hear.Given as goal

-- those so far were told
abbrev pub invariant-loop-push : goal.invariant-loop-push
invariant-loop-push g l = HeardSoFar IsRouted IsWorn l.pushes l.push-index l.told l.fn.self l.self
