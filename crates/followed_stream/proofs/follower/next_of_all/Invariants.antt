use Rattle.std.proofs.Common.{take}
use Rattle.timers.specs.Bounds.{IsTimerBound}
use Rattle.timers.specs.Timers.{later}
use Rattle.followed_stream.proofs.NextTimers.{timers_of}
use Rattle.followed_stream.proofs.follower.next_of_all.Given as goal

-- the moment is a bound for the consumers so far
abbrev pub invariant-loop-follower : goal.invariant-loop-follower
invariant-loop-follower l = IsTimerBound (later l.fn.now (timers_of (take l.follower-index l.followers))) l.next
