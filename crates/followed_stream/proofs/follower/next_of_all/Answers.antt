use Rattle.std.proofs.Common.{take, arith, subst}
use Rattle.timers.specs.Bounds.{IsTimerBound}
use Rattle.timers.specs.Timers.{consumer_timers, later}
use Rattle.followed_stream.specs.Followers.{Following}
use Rattle.followed_stream.proofs.NextTimers.{later_more, timers_of}
use Rattle.followed_stream.proofs.follower.next_of_all.Goals as goal

pub loop-follower-preserved : goal.loop-follower-preserved
loop-follower-preserved c =
    let fs = c.args.followers.now in
    let now = c.args.now in
    let i = c.loop-follower.follower-index in
    let f = c.follower-item.result in
    let own : IsTimerBound (later now (consumer_timers f.consumer)) c.next_timer.result =
    subst (λ (x : Following). IsTimerBound (later now (consumer_timers x.consumer)) c.next_timer.result) c.follower.view_is c.next_timer.ensures.bound in
    subst (λ ts. IsTimerBound ts c.earlier-next.result) (later_more now fs i f (omega arith) c.follower-item.is)
    (c.earlier-next.ensures.bound (later now (timers_of (take i fs))) (later now (consumer_timers f.consumer)) c.loop-follower.invariant own)
