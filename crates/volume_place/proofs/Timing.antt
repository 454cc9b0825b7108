-- What bounds no moments.
use Rattle.std.proofs.Common.{[], Option, None, Some, ℕ, refl, arith}
use Rattle.timers.specs.Bounds.{IsTimerBound}

pub none_bounded : (bound : Option ℕ) → IsTimerBound [] bound
none_bounded None = refl
none_bounded (Some bound) = λ k d below. absurd (omega (arith, below))
