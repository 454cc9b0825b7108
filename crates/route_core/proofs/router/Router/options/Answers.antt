use Rattle.std.proofs.Common.{◌∙◌, ap, refl}
use Rattle.js_model.specs.Router.{Done, is_session}
use Rattle.route_core.specs.Sessions.{with_first, set_options}
use Rattle.route_core.proofs.Places.{length-with_first, lent_back}
use Rattle.route_core.proofs.Numbers.{numbered_first}
use Rattle.route_core.proofs.Calls.{options_routed}
use Rattle.route_core.proofs.Laws.{options_keep}
use Rattle.route_core.proofs.Searching.{in_order}
use Rattle.route_core.proofs.router.Router.options.Goals as goal

pub invariant_of-self : goal.invariant_of-self
invariant_of-self c =
    let old = c.self.inside in
    let test = is_session c.args.session in
    let change = set_options c.args.echo c.args.headers in
    let written = lent_back old.sessions.len old.sessions.items _ _ old.sessions.ok.0 (c.set_options.ensures.value ∙ ap (with_first test change) c.deref_mut.ensures.value) (length-with_first test change old.sessions.items) in
    rw written (numbered_first old.latest c.args.session change (λ s. refl) old.sessions.items c.self.invariant)

pub returns : goal.returns
returns c =
    let old = c.self.inside in
    let test = is_session c.args.session in
    let change = set_options c.args.echo c.args.headers in
    let written = lent_back old.sessions.len old.sessions.items _ _ old.sessions.ok.0 (c.set_options.ensures.value ∙ ap (with_first test change) c.deref_mut.ensures.value) (length-with_first test change old.sessions.items) in
    let routed = options_routed old.sessions.items old.subscriptions old.latest c.args.self.now c.self.view_is c.args.session c.args.echo c.args.headers c.self.invariant _ written in
    record { routes = routed; stay = options_keep _ _ c.args.session c.args.echo c.args.headers Done routed }

pub set_options-requires : goal.set_options-requires
set_options-requires c = record { numbered = in_order c.self.inside.latest c.self.inside.sessions.items c.deref_mut.result.now c.self.invariant c.deref_mut.ensures.value }
