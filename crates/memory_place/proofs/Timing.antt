-- What bounds the timers of a place.
use Rattle.std.proofs.Common.{ℕ, Option, None, refl}
use Rattle.js_model.specs.declared.stream.State.TheVariants.{Vacant, Live}
use Rattle.js_model.specs.declared.stream.Stream.{Stream}
use Rattle.timers.specs.Bounds.{IsTimerBound}
use Rattle.timers.specs.Timers.{stream_timers, timers}

-- a place without a stream has none
pub vacant_bound : (last : ℕ) → IsTimerBound (timers (Vacant last)) None
unfolding timers
vacant_bound last = refl

pub live_bound : (s : Stream) (bound : Option ℕ) → IsTimerBound (stream_timers s) bound → IsTimerBound (timers (Live s)) bound
unfolding timers
live_bound s bound is = is
