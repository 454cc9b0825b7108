use Rattle.route_core.proofs.Calls.{unsub_refused, unsub_routed}
use Rattle.route_core.proofs.Searching.{in_order}
use Rattle.route_core.proofs.router.Router.unsub.Goals as goal

pub returns-then-not-is_open-clause-routes : goal.returns-then-not-is_open-clause-routes
returns-then-not-is_open-clause-routes c =
    let old = c.self.inside in
    unsub_refused old.sessions.items old.subscriptions old.latest c.args.self.now c.self.view_is c.args.session c.args.sid.now c.args.max (cc)

pub returns-clause-routes : goal.returns-clause-routes
returns-clause-routes c =
    let old = c.self.inside in
    unsub_routed old.sessions.items old.subscriptions old.latest c.args.self.now c.self.view_is c.args.session c.args.sid.now c.args.max (cc) _ c.unsubscribe.ensures.left

pub is_open-requires : goal.is_open-requires
is_open-requires c = record { numbered = in_order c.self.inside.latest c.self.inside.sessions.items c.deref.result.now c.self.invariant c.deref.ensures.value }
