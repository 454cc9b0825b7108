use Rattle.std.proofs.Common.{◌+◌, refl, arith}
use Rattle.js_model.specs.Router.{new_session}
use Rattle.route_core.proofs.Numbers.{numbered_push, new_number}
use Rattle.route_core.proofs.Handing.{router_of}
use Rattle.route_core.proofs.Calls.{worn_routed, open_routed}
use Rattle.route_core.proofs.Laws.{opens_last}
use Rattle.route_core.proofs.router.Router.open.Goals as goal

pub returns-then-number-eq-END-clause-routes : goal.returns-then-number-eq-END-clause-routes
returns-then-number-eq-END-clause-routes c =
    let old = c.self.inside in
    worn_routed old.sessions.items old.subscriptions old.latest c.args.self.now c.self.view_is c.if-number-eq-END.true

pub invariant_of-self-2 : goal.invariant_of-self-2
invariant_of-self-2 c =
    let old = c.self.inside in
    rw c.in_ok-add_session.ensures.ok (numbered_push old.latest old.sessions.items (new_session (old.latest + 1)) c.self.invariant refl (omega (arith, c.self.invariant.small)))

pub returns-clause-routes : goal.returns-clause-routes
returns-clause-routes c =
    let old = c.self.inside in
    open_routed old.sessions.items old.subscriptions old.latest c.args.self.now c.self.view_is _ c.in_ok-add_session.ensures.ok c.if-number-eq-END.false

pub returns-clause-opens : goal.returns-clause-opens
returns-clause-opens c =
    let old = c.self.inside in
    opens_last (router_of c.add_session.new.sessions.items old.subscriptions (old.latest + 1)) old.sessions.items (old.latest + 1) c.in_ok-add_session.ensures.ok (new_number old.latest old.sessions.items c.self.invariant)
