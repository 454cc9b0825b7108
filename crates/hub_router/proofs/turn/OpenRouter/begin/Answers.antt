use Rattle.std.proofs.Common.{◌≡◌, ℕ, true, subst}
use Rattle.js_base.specs.Bytes.{has}
use Rattle.hub_router.proofs.Called.{may_still}
use Rattle.hub_router.proofs.turn.OpenRouter.begin.Goals as goal

pub returns-in-Ok-clause-may : goal.returns-in-Ok-clause-may
returns-in-Ok-clause-may g c =
    may_still c.args.seat c.in-Ok.held.seat c.in-Ok.held.value c.no_entries-entries.result.value c.in-Ok.ensures.comes
    (subst (λ (n : ℕ). has c.in-Ok.held.seat.numbers n ≡ true) c.number.ensures.value c.number.ensures.own) c.no_entries-entries.ensures.value
