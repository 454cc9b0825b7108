-- Messages are spread over a queue group: the member takes the next one that was sent the fewest since its SUB, the earliest of several.
use Rattle.std.specs.Prelude.{◌≡◌, ℕ, ◌<◌, ◌≤◌, false, List, ◌∷◌, ◌++◌, Option}
use Rattle.std.specs.List.{AllByRecursion}
use Rattle.js_base.specs.declared.out.Out.{Out}
use Rattle.js_model.specs.Router.{Router, Subscription, Publish, Taken, candidates, is_plain, IsChoice, route, telling}

-- among those that may be sent a message, each other member of its group was sent as many as it at least, and each one before it more
pub record IsNext (subs : List Subscription) (sub : Subscription) : Type 0 where
  pub before : List Subscription
  pub after : List Subscription
  pub place : subs ≡ before ++ sub ∷ after
  pub in_group : is_plain sub ≡ false
  pub earlier : AllByRecursion (λ other. other.queue ≡ sub.queue → sub.sent < other.sent) before
  pub later : AllByRecursion (λ other. other.queue ≡ sub.queue → sub.sent ≤ other.sent) after

-- a message that so many take goes to such a member of each group
pub record Spreads (old : Router) (out : Out) (from : Option ℕ) (count : ℕ) (new : Router) : Type 0 where
  pub chosen : List Subscription
  pub choice : IsChoice old (Publish out from) chosen
  pub next : AllByRecursion (IsNext (candidates old out.to from)) chosen
  pub routed : route old (Publish out from) chosen ≡ telling (Taken count) new
