use Rattle.std.proofs.Common.{◌≡◌, take}
use Rattle.consumer_state.proofs.making.queue_of.Given as goal

-- the pulls so far
abbrev pub invariant-loop-pull : goal.invariant-loop-pull
invariant-loop-pull l = l.queue ≡ record { max_waiting = l.max_waiting; pulls = take l.pull-index l.pulls }
