use Rattle.std.proofs.Common.{◌≡◌, ◌++◌, take, drop, map}
use Rattle.js_model.specs.Advance.{beaten}
use Rattle.pull_queue.proofs.moments.beat_all.Given as goal

-- the heartbeats of the pulls so far are marked, and the others are as they were
abbrev pub invariant-loop-pull : goal.invariant-loop-pull
invariant-loop-pull l = l.pulls ≡ map (beaten l.now) (take l.pull-index l.initial.pulls) ++ drop l.pull-index l.initial.pulls
