-- Calls of the router, from which worked rows are made.
use Rattle.std.specs.Prelude.{ℕ, true, false, List, [], ◌∷◌, Option, Some, None, codes, map}
use Rattle.js_base.specs.Bytes.{Bytes}
use Rattle.js_base.specs.declared.out.Out.{Out}
use Rattle.js_base.specs.declared.frame.Frame.{Frame}
use Rattle.js_base.specs.declared.frame.Frame.TheVariants.{Msg}
use Rattle.js_model.specs.Router.{Router, Subscription, Marked, empty_router, new_subscription, RouteCall, Sub, Publish, RouteTold, route}

-- ---- calls, one after the other, each with those that were chosen of the groups

pub record Asked : Type 0 where
  pub call : RouteCall
  pub chosen : List Subscription

abbrev pub asked : RouteCall → Asked
asked call = record { call = call; chosen = [] }

abbrev pub after_call : Router → Asked → Router
after_call r a = (route r a.call a.chosen).router

abbrev pub router_after : Router → List Asked → Router
router_after r [] = r
router_after r (a ∷ more) = router_after (after_call r a) more

-- the router after calls of which none chooses
abbrev pub router_of : List RouteCall → Router
router_of calls = router_after empty_router (map asked calls)

-- what a call is told after these
abbrev pub told_of : List RouteCall → RouteCall → RouteTold
told_of calls call = (route (router_of calls) call []).told

-- ---- what is published

-- with a header block
abbrev pub out : Bytes → Bytes → Out
out subject payload = record { to = subject; subject = subject; reply = None; headers = codes "H"; payload = payload }

-- what a session without header blocks is given of it
abbrev pub said : Bytes → Bytes → Bytes → Frame
said subject sid payload = Msg subject sid None [] payload

-- to `a`, by nobody
abbrev pub say : Bytes → RouteCall
say payload = Publish (out (codes "a") payload) None

abbrev pub heard : Bytes → Bytes → Frame
heard sid payload = said (codes "a") sid payload

-- ---- subscriptions

abbrev pub plain : ℕ → Bytes → Bytes → RouteCall
plain session pattern sid = Sub session pattern None sid

abbrev pub member : ℕ → Bytes → Bytes → Bytes → RouteCall
member session pattern name sid = Sub session pattern (Some name) sid

-- what such a SUB makes
abbrev pub plain_of : ℕ → Bytes → Bytes → Subscription
plain_of session pattern sid = new_subscription session pattern None sid

abbrev pub member_of : ℕ → Bytes → Bytes → Bytes → Subscription
member_of session pattern name sid = new_subscription session pattern (Some name) sid

-- ---- a session that was marked, with a subscription to `a`

abbrev pub marked_router : Option Bytes → Router
marked_router queue = record {
  sessions = record { number = 1; echo = true; headers = false; waiting = Marked 16777520 } ∷ [];
  subscriptions = new_subscription 1 (codes "a") queue (codes "1") ∷ [];
  latest = 1;
}
