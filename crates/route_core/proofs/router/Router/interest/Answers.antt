use Rattle.std.specs.Option.{option_copied}
use Rattle.route_core.proofs.Calls.{interest_routed}
use Rattle.route_core.proofs.router.Router.interest.Goals as goal

pub returns : goal.returns
returns c =
    let old = c.self.inside in
    record { routes = interest_routed old.sessions.items old.subscriptions old.latest c.args.self.now c.self.view_is c.args.subject.now (option_copied c.args.group) c.is_interest.result (cc) }
