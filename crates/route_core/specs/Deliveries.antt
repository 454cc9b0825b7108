-- What a message becomes for its takers, and what handing it over leaves.
use Rattle.std.specs.Prelude.{Bool, List, map}
use Rattle.js_base.specs.declared.out.Out.{Out}
use Rattle.js_model.specs.Router.{Session, Subscription, is_session, frame_for}
use Rattle.route_core.specs.declared.delivery.Delivery.{Delivery}
use Rattle.route_core.specs.Sessions.{with_first, receiving, takes_headers}
use Rattle.route_core.specs.Subscriptions.{after_one_sent}

-- the message for a subscription, whose client takes header blocks or none
abbrev pub delivery_with : Bool → Out → Subscription → Delivery
delivery_with headers out sub = record { session = sub.session; sid = sub.sid; frame = frame_for out sub.sid headers }

abbrev pub delivery_of : List Session → Out → Subscription → Delivery
delivery_of sessions out sub = delivery_with (takes_headers sessions sub.session) out sub

abbrev pub deliveries_of : List Session → Out → List Subscription → List Delivery
deliveries_of sessions out subs = map (delivery_of sessions out) subs

-- the sessions after one delivery
abbrev pub handed_over : List Session → Delivery → List Session
handed_over sessions delivery = with_first (is_session delivery.session) (receiving delivery.frame) sessions

-- the subscriptions after it
abbrev pub counted_once : List Subscription → Delivery → List Subscription
counted_once subs delivery = after_one_sent delivery.session delivery.sid subs
