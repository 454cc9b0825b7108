use Rattle.std.proofs.Common.{◌≡◌, ◌∙◌, ℕ, Option, List, true, length, map, refl, sym, ap}
use Rattle.std.proofs.lemmas.List.{length-map}
use Rattle.std.specs.List.{fold}
use Rattle.js_base.specs.declared.out.Out.{Out}
use Rattle.js_model.specs.Router.{Session, Subscription, Taken}
use Rattle.route_core.specs.declared.delivery.Delivery.{Delivery}
use Rattle.route_core.specs.Sessions.{is_publisher_open, deaf_of}
use Rattle.route_core.specs.Groups.{takers_of}
use Rattle.route_core.specs.Deliveries.{deliveries_of, handed_over, counted_once}
use Rattle.route_core.proofs.Places.{lent_back}
use Rattle.route_core.proofs.Handing.{numbered_handed, length-handed}
use Rattle.route_core.proofs.Calls.{publish_refused, publish_spread, spread_routed}
use Rattle.route_core.proofs.Laws.{publish_keeps}
use Rattle.route_core.proofs.Searching.{in_order}
use Rattle.route_core.proofs.router.Router.publish.Goals as goal

pub returns-then-not-is_publisher_open-clause-routes : goal.returns-then-not-is_publisher_open-clause-routes
returns-then-not-is_publisher_open-clause-routes c =
    let old = c.self.inside in
    publish_refused old.sessions.items old.subscriptions old.latest c.args.self.now c.self.view_is c.args.out.now c.args.from (cc)

handed_lists : (lent sessions : List Session) (list listed : List Delivery) → lent ≡ sessions → list ≡ listed → fold handed_over lent list ≡ fold handed_over sessions listed
handed_lists lent sessions list listed e f = ap (λ ss. fold handed_over ss list) e ∙ ap (fold handed_over sessions) f

-- the deliveries are those of the router's own lists
of_the_lists : (list : List Delivery) (sessions asked heard : List Session) (subs listed : List Subscription) (out : Out) (from deaf : Option ℕ)
    → list ≡ deliveries_of heard out (takers_of out.to deaf listed) → heard ≡ sessions → deaf ≡ deaf_of asked from → asked ≡ sessions → listed ≡ subs
    → list ≡ deliveries_of sessions out (takers_of out.to (deaf_of sessions from) subs)
of_the_lists list sessions asked heard subs listed out from deaf e f g h k =
    e ∙ ap (λ s. deliveries_of s out (takers_of out.to deaf listed)) f ∙ ap (λ d. deliveries_of sessions out (takers_of out.to d listed)) (g ∙ ap (λ s. deaf_of s from) h)
    ∙ ap (λ bs. deliveries_of sessions out (takers_of out.to (deaf_of sessions from) bs)) k

pub invariant_of-self : goal.invariant_of-self
invariant_of-self c =
    let old = c.self.inside in
    let all = takers_of c.args.out.now.to (deaf_of old.sessions.items c.args.from) old.subscriptions in
    let listed = of_the_lists (map (λ posted. posted.delivery) c.in_ok-list.list.items) old.sessions.items c.deref-2.result.now c.deref-3.result.now old.subscriptions old.subscriptions c.args.out.now c.args.from c.deaf_of-deaf.result
    c.in_ok-list.ensures.value c.deref-3.ensures.value c.deaf_of-deaf.ensures.value c.deref-2.ensures.value refl in
    let written = lent_back old.sessions.len old.sessions.items _ _ old.sessions.ok.0 (c.hand_over_all.ensures.sessions ∙ handed_lists _ _ _ _ c.deref_mut.ensures.value listed) (length-handed old.sessions.items (deliveries_of old.sessions.items c.args.out.now all)) in
    rw written (numbered_handed old.sessions.items c.args.out.now old.latest all c.self.invariant)

pub returns : goal.returns
returns c =
    let old = c.self.inside in
    let open' : is_publisher_open old.sessions.items c.args.from ≡ true = cc in
    let all = takers_of c.args.out.now.to (deaf_of old.sessions.items c.args.from) old.subscriptions in
    let listed = of_the_lists (map (λ posted. posted.delivery) c.in_ok-list.list.items) old.sessions.items c.deref-2.result.now c.deref-3.result.now old.subscriptions old.subscriptions c.args.out.now c.args.from c.deaf_of-deaf.result
    c.in_ok-list.ensures.value c.deref-3.ensures.value c.deaf_of-deaf.ensures.value c.deref-2.ensures.value refl in
    let written = lent_back old.sessions.len old.sessions.items _ _ old.sessions.ok.0 (c.hand_over_all.ensures.sessions ∙ handed_lists _ _ _ _ c.deref_mut.ensures.value listed) (length-handed old.sessions.items (deliveries_of old.sessions.items c.args.out.now all)) in
    let spread = publish_spread old.sessions.items old.subscriptions old.latest c.args.self.now c.self.view_is c.args.out.now c.args.from c.self.invariant open'
    _ c.hand_over_all.new.subscriptions c.len-count.result written (c.hand_over_all.ensures.subscriptions ∙ ap (fold counted_once old.subscriptions) listed)
    (c.len-count.ensures ∙ c.in_ok-list.list.ok.0 ∙ sym (length-map c.in_ok-list.list.items (λ posted. posted.delivery)) ∙ ap length listed) in
    let routed = spread_routed _ _ c.args.out.now c.args.from c.len-count.result spread in
    record { routes = routed; spreads = spread; stay = publish_keeps _ _ c.args.out.now c.args.from (Taken c.len-count.result) routed; err = tt }

pub is_publisher_open-requires : goal.is_publisher_open-requires
is_publisher_open-requires c = record { numbered = in_order c.self.inside.latest c.self.inside.sessions.items c.deref.result.now c.self.invariant c.deref.ensures.value }

pub deliveries-requires : goal.deliveries-requires
deliveries-requires c = record { numbered = in_order c.self.inside.latest c.self.inside.sessions.items c.deref-3.result.now c.self.invariant c.deref-3.ensures.value }

pub hand_over_all-requires : goal.hand_over_all-requires
hand_over_all-requires c = record { numbered = in_order c.self.inside.latest c.self.inside.sessions.items c.deref_mut.result.now c.self.invariant c.deref_mut.ensures.value }
