use Rattle.std.proofs.Common.{◌≡◌, ◌++◌, map, take}
use Rattle.std.specs.Prelude.{filter}
use Rattle.js_model.specs.Router.{is_plain}
use Rattle.route_core.specs.Deliveries.{deliveries_of}
use Rattle.route_core.proofs.dispatch.add_plain.Given as goal

-- the messages for the takers so far are added
abbrev pub invariant-loop-heard : goal.invariant-loop-heard
invariant-loop-heard l =
    map (λ posted. posted.delivery) l.list.items ≡ map (λ posted. posted.delivery) l.initial.list.items ++ deliveries_of l.sessions l.out (filter is_plain (map (λ heard. heard.sub.now) (take l.heard-index l.hearing)))
