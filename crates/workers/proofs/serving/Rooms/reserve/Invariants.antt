use Rattle.std.specs.Prelude.{◌≡◌, ◌≤◌, length, vec_capacity}
use Rattle.workers.proofs.serving.Rooms.reserve.Given as goal

abbrev pub invariant-loop : goal.invariant-loop
invariant-loop g l = (length l.clocks.items ≡ l.counter) × (l.workers ≤ vec_capacity l.clocks)
