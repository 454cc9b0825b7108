use Rattle.std.proofs.Common.{ℕ}
use Rattle.js_model.specs.Router.{IsRoute, Router}
use Rattle.desk_hold.proofs.Listeners.{HeardSoFar}
use Rattle.desk_hold.proofs.port.hear_each.Given as goal

-- those so far were told
abbrev pub invariant-loop-push : goal.invariant-loop-push
invariant-loop-push l = HeardSoFar IsRoute (λ (old : Router) (number : ℕ) (new : Router). ⊥) l.pushes l.push-index l.told l.fn.router l.fn.router
