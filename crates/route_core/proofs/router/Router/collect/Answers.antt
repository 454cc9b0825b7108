use Rattle.std.proofs.Common.{◌≡◌, ◌∙◌, sym, ap, refl, subst, set, Ok}
use Rattle.std.specs.List.{position}
use Rattle.js_model.specs.Router.{is_session, without_collected}
use Rattle.js_model.specs.Routing.{collected_told}
use Rattle.route_core.specs.Sessions.{AreNumbered, with_first}
use Rattle.route_core.proofs.Numbers.{numbered_first}
use Rattle.route_core.proofs.Places.{first_at, changed_there}
use Rattle.route_core.proofs.Calls.{collect_refused, collect_routed}
use Rattle.route_core.proofs.Laws.{collect_keeps, collect_leaves_fewer}
use Rattle.route_core.proofs.Idle.{collect_leaves_idle}
use Rattle.route_core.proofs.Searching.{in_order}
use Rattle.route_core.proofs.router.Router.collect.Goals as goal
use Rattle.route_core.proofs.router.Router.collect.Goals.{In_ok-collect}

pub returns-in_default-clause-routes : goal.returns-in_default-clause-routes
returns-in_default-clause-routes c =
    let old = c.self.inside in
    collect_refused old.sessions.items old.subscriptions old.latest c.args.self.now c.self.view_is c.args.session c.args.max c.deref.result.now c.place_of.result
    c.deref.ensures.value c.place_of.ensures.value c.in_default.is

-- the session's frames are collected, and the others stay
left : (c : In_ok-collect)
    → set c.self.inside.sessions.items c.in-Some.at c.collect.new.self ≡ with_first (is_session c.args.session) (λ s. record s { waiting = without_collected c.args.max s.waiting }) c.self.inside.sessions.items
left c =
    changed_there (is_session c.args.session) (λ s. record s { waiting = without_collected c.args.max s.waiting }) c.self.inside.sessions.items c.deref.result.now c.place_of.result c.in-Some.at
    c.index_mut-session.result.now c.collect.new.self c.deref.ensures.value c.place_of.ensures.value c.in-Some.is c.index_mut-session.ensures.value c.in_ok-collect.ensures.left

pub invariant_of-self-2 : goal.invariant_of-self-2
invariant_of-self-2 c =
    rw (left c) (numbered_first c.self.inside.latest c.args.session (λ s. record s { waiting = without_collected c.args.max s.waiting }) (λ s. refl) c.self.inside.sessions.items c.self.invariant)

pub returns : goal.returns
returns c =
    let old = c.self.inside in
    let n = c.args.session in
    let s = c.index_mut-session.result.now in
    let first = first_at (is_session n) old.sessions.items c.in-Some.at s (ap (position (is_session n)) (sym c.deref.ensures.value) ∙ sym c.place_of.ensures.value ∙ c.in-Some.is) in
    let routed = collect_routed old.sessions.items old.subscriptions old.latest c.args.self.now c.self.view_is n c.args.max c.self.invariant c.in-Some.at s first c.index_mut-session.ensures.value
    _ (left c) c.in_ok-collect.field-0 c.in_ok-collect.ensures.told in
    let numbered = subst (λ r. AreNumbered r.latest r.sessions) c.self.view_is c.self.invariant in
    record {
      routes = routed;
      left = collect_leaves_fewer _ _ n c.args.max (Ok c.in_ok-collect.field-0) routed;
      idle = collect_leaves_idle _ _ n c.args.max c.in_ok-collect.field-0 numbered routed;
      stay = collect_keeps _ _ n c.args.max (collected_told (Ok c.in_ok-collect.field-0)) routed;
      err = tt;
    }

pub place_of-requires : goal.place_of-requires
place_of-requires c = record { numbered = in_order c.self.inside.latest c.self.inside.sessions.items c.deref.result.now c.self.invariant c.deref.ensures.value }
