use Rattle.std.proofs.Common.{◌≡◌, ◌++◌, map, take}
use Rattle.std.specs.Prelude.{filter}
use Rattle.js_model.specs.Advance.{timeout}
use Rattle.js_model.specs.Advance.{is_over}
use Rattle.pull_queue.proofs.status.put_timeouts.Given as goal

-- the messages to those of the pulls so far
abbrev pub invariant-loop-pull : goal.invariant-loop-pull
invariant-loop-pull l = l.outs.items ≡ l.initial.outs.items ++ map timeout (filter (is_over l.now) (take l.pull-index l.pulls))
