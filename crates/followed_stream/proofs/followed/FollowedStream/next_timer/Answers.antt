use Rattle.std.proofs.Common.{List, ℕ, ◌++◌, nat_lt, subst}
use Rattle.timers.specs.Bounds.{IsTimerBound}
use Rattle.timers.specs.Timers.{age_timers, id_timers, later}
use Rattle.timer_bounds.proofs.Bounding.{fewer_bound, later_append}
use Rattle.followed_stream.specs.Followers.{Following}
use Rattle.followed_stream.proofs.NextTimers.{timers_of}
use Rattle.followed_stream.proofs.followed.FollowedStream.next_timer.Goals as goal

pub returns : goal.returns
returns c =
    let s = c.self.inside.stored in
    let now = s.moment in
    let stored : List ℕ = age_timers s ++ id_timers s in
    let followed : List ℕ = timers_of c.self.inside.followers.items in
    let one = fewer_bound (nat_lt now) c.next_timer.result stored c.next_timer.ensures.bound in
    let two : IsTimerBound (later now followed) c.next_of_all-followers.result =
    subst (λ (fs : List Following). IsTimerBound (later now (timers_of fs)) c.next_of_all-followers.result) c.as_slice.ensures.value
    (rw c.moment.ensures.value at c.next_of_all-followers.ensures.bound) in
    let all = c.earlier.ensures.bound (later now stored) (later now followed) one two in
    record { bound = rw (← c.self.view_is) (subst (λ ts. IsTimerBound ts c.earlier.result) (later_append now stored followed) all) }
