use Rattle.route_core.proofs.Numbers.{numbered_filter}
use Rattle.route_core.proofs.Calls.{close_routed}
use Rattle.route_core.proofs.Laws.{close_closes}
use Rattle.route_core.proofs.router.Router.close.Goals as goal

pub invariant_of-self : goal.invariant_of-self
invariant_of-self c = rw c.remove_session.ensures.left (numbered_filter _ _ _ c.self.invariant)

pub returns : goal.returns
returns c =
    let old = c.self.inside in
    let routed = close_routed old.sessions.items old.subscriptions old.latest c.args.self.now c.self.view_is c.args.session _ _ c.remove_session.ensures.left c.remove_session-2.ensures.left in
    record { routes = routed; closed = close_closes _ _ c.args.session routed }
