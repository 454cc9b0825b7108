use Rattle.std.specs.Option.{option_copied}
use Rattle.route_core.proofs.Calls.{sub_refused, sub_in_use, sub_full, sub_added}
use Rattle.route_core.proofs.Searching.{in_order}
use Rattle.route_core.proofs.router.Router.sub.Goals as goal

pub returns-then-not-is_open-clause-routes : goal.returns-then-not-is_open-clause-routes
returns-then-not-is_open-clause-routes c =
    let old = c.self.inside in
    sub_refused old.sessions.items old.subscriptions old.latest c.args.self.now c.self.view_is c.args.session c.args.subject.now (option_copied c.args.queue) c.args.sid.now (cc)

pub returns-then-is_in_use-clause-routes : goal.returns-then-is_in_use-clause-routes
returns-then-is_in_use-clause-routes c =
    let old = c.self.inside in
    sub_in_use old.sessions.items old.subscriptions old.latest c.args.self.now c.self.view_is c.args.session c.args.subject.now (option_copied c.args.queue) c.args.sid.now (cc) (cc)

pub returns-then-is_full-clause-routes : goal.returns-then-is_full-clause-routes
returns-then-is_full-clause-routes c =
    let old = c.self.inside in
    sub_full old.sessions.items old.subscriptions old.latest c.args.self.now c.self.view_is c.args.session c.args.subject.now (option_copied c.args.queue) c.args.sid.now (cc) (cc) (cc)

pub returns-clause-routes : goal.returns-clause-routes
returns-clause-routes c =
    let old = c.self.inside in
    sub_added old.sessions.items old.subscriptions old.latest c.args.self.now c.self.view_is c.args.session c.args.subject.now (option_copied c.args.queue) c.args.sid.now (cc) (cc) (cc)
    _ c.in_ok-subscribe.ensures.ok

pub is_open-requires : goal.is_open-requires
is_open-requires c = record { numbered = in_order c.self.inside.latest c.self.inside.sessions.items c.deref.result.now c.self.invariant c.deref.ensures.value }
