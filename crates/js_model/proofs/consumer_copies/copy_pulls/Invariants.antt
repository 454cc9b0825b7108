use Rattle.std.proofs.Common.{◌≡◌, take}
use Rattle.js_model.proofs.consumer_copies.copy_pulls.Given as goal

-- the pulls so far were copied
abbrev pub invariant-loop-pull : goal.invariant-loop-pull
invariant-loop-pull l = l.copy ≡ take l.pull-index l.pulls
