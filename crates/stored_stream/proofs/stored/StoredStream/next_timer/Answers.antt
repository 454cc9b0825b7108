use Rattle.std.proofs.Common.{map}
use Rattle.js_base.specs.Moments.{plus}
use Rattle.timers.specs.Bounds.{IsTimerBound}
use Rattle.timers.specs.Timers.{age_timers, id_timers}
use Rattle.stored_stream.proofs.Ages.{ids_bound}
use Rattle.stored_stream.proofs.stored.StoredStream.next_timer.Goals as goal

pub returns : goal.returns
returns c =
    let s = c.args.self.now in
    let ids = c.self.inside.ids in
    let first : IsTimerBound (map (λ i. plus i.at ids.window) ids.ids) c.next_timer.result =
    ids_bound ids.window ids.ids c.next_timer.result c.next_timer.ensures.value c.next_timer.ensures.first in
    let ids_are : IsTimerBound (id_timers s) c.next_timer.result = rw (← c.self.view_is, ← c.self.invariant.window) first in
    record { bound = c.earlier.ensures.bound (age_timers s) (id_timers s) c.next_age.ensures.bound ids_are }
