use Rattle.std.proofs.Common.{◌≡◌, ◌++◌, map, take}
use Rattle.route_core.specs.Deliveries.{deliveries_of}
use Rattle.route_core.proofs.dispatch.add_each.Given as goal

-- the messages for those so far are added
abbrev pub invariant-loop-heard : goal.invariant-loop-heard
invariant-loop-heard l =
    map (λ posted. posted.delivery) l.list.items ≡ map (λ posted. posted.delivery) l.initial.list.items ++ deliveries_of l.sessions l.out (map (λ heard. heard.sub.now) (take l.heard-index l.takers))
