use Rattle.std.proofs.Common.{true}
use Rattle.turn_counter.specs.Counting.{HasCounted}
use Rattle.turn_counter.proofs.counter.count_times.Given as goal

abbrev pub invariant-loop : goal.invariant-loop
invariant-loop g l = HasCounted l.counter l.fn.seat l.seat true
