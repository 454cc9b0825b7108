use Rattle.std.proofs.Common.{◌≡◌, ℕ, take}
use Rattle.std.specs.List.{list_any}
use Rattle.pull_queue.specs.Quiet.{is_due, is_reached}
use Rattle.pull_queue.proofs.moments.next_of_all.Given as goal

-- the moment is that of the pulls so far
abbrev pub invariant-loop-pull : goal.invariant-loop-pull
invariant-loop-pull l = (now : ℕ) → is_reached now l.next ≡ list_any (is_due now) (take l.pull-index l.pulls)
