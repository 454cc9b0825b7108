use Rattle.std.proofs.Common.{◌≡◌, ◌++◌, ◌∷◌, [], ℕ, rules}
use Rattle.js_model.specs.Router.{IsRoute, Router}
use Rattle.desk_hold.proofs.Listeners.{next_heard, short_heard}
use Rattle.desk_hold.proofs.port.hear_each.Goals as goal

pub returns-then-is_err : goal.returns-then-is_err
returns-then-is_err c = record { hears = short_heard IsRoute (λ (old : Router) (number : ℕ) (new : Router). ⊥) c.args.pushes.now c.args.router.now }

pub loop-push-preserved : goal.loop-push-preserved
loop-push-preserved c =
    let added : c.push.new.self ≡ c.loop-push.told ++ c.is_heard-heard.result ∷ [] = search rules in
    next_heard IsRoute (λ (old : Router) (number : ℕ) (new : Router). ⊥) c.args.pushes.now c.loop-push.push-index c.loop-push.told c.push.new.self c.push-item.result c.is_heard-heard.result
    c.args.router.now c.args.router.now c.args.router.now c.loop-push-test.true c.push-item.is c.loop-push.invariant c.is_heard-heard.ensures.heard added
