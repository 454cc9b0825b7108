-- Those that may be sent a message.
use Rattle.std.specs.Prelude.{ℕ, Option, Some, None, if◌then◌else◌}
use Rattle.js_model.specs.Router.{Subscription}
use Rattle.route_core.specs.Subscriptions.{is_number}

-- a subscription, if there is one and it is none of the deaf publisher's own
abbrev pub heard_some : Option ℕ → Option Subscription → Option Subscription
heard_some deaf None = None
heard_some deaf (Some sub) = if is_number deaf sub.session then None else Some sub
