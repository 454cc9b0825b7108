use Rattle.std.proofs.Common.{◌≤◌}
use Rattle.disk_tests.proofs.volumes.count_of_len.Given as goal

abbrev pub invariant-loop-pick : goal.invariant-loop-pick
invariant-loop-pick l = l.count ≤ l.pick
