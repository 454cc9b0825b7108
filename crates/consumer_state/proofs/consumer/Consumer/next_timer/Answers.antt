use Rattle.std.proofs.Common.{List, [], ℕ, ◌++◌, subst, if◌then◌else◌}
use Rattle.std.specs.List.{flat_map}
use Rattle.js_model.specs.Streams.{is_push}
use Rattle.timers.specs.Bounds.{IsTimerBound}
use Rattle.timers.specs.Timers.{beat_timers, later, pending_timers, pull_timers}
use Rattle.consumer_state.proofs.Timing.{later_bound, later_three, pulls_bound}
use Rattle.consumer_state.proofs.consumer.Consumer.next_timer.Goals as goal

pub returns : goal.returns
returns c =
    let k = c.args.self.now in
    let now = c.args.now in
    let pulls : List ℕ = flat_map pull_timers k.waiting in
    let beats : List ℕ = if is_push k then beat_timers k.mark k.config.idle_heartbeat else [] in
    let dues : List ℕ = pending_timers k in
    let pulls_are : IsTimerBound pulls c.next_timer-pulls.result =
    rw (← c.self.view_is) (pulls_bound c.next_timer-pulls.result c.self.inside.pulls.pulls c.next_timer-pulls.ensures.quiet) in
    let dues_are : IsTimerBound (later now dues) c.next_timer-due.result = rw (← c.self.view_is) c.next_timer-due.ensures.bound in
    let one = later_bound now c.next_timer-pulls.result pulls pulls_are in
    let two = later_bound now c.next_beat.result beats c.next_beat.ensures.bound in
    let both = c.earlier.ensures.bound (later now pulls) (later now beats) one two in
    let all = c.earlier-2.ensures.bound (later now pulls ++ later now beats) (later now dues) both dues_are in
    record { bound = subst (λ ts. IsTimerBound ts c.earlier-2.result) (later_three now pulls beats dues) all }
