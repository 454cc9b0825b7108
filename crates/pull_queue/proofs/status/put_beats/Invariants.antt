use Rattle.std.proofs.Common.{◌≡◌, ◌++◌, map, take}
use Rattle.std.specs.Prelude.{filter}
use Rattle.js_model.specs.Advance.{pull_beat}
use Rattle.pull_queue.specs.Passing.{is_beaten}
use Rattle.pull_queue.proofs.status.put_beats.Given as goal

-- the messages to those of the pulls so far
abbrev pub invariant-loop-pull : goal.invariant-loop-pull
invariant-loop-pull l = l.outs.items ≡ l.initial.outs.items ++ map pull_beat (filter (is_beaten l.now) (take l.pull-index l.pulls))
