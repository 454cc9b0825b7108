use Rattle.std.proofs.Common.{◌≡◌, ◌≤◌, ◌+◌, ◌++◌, ℕ, suc, [], vec_capacity, length}
use Rattle.turn_lock.specs.Views.{opened}
use Rattle.turn_lock.specs.Calls.{new_seats}
use Rattle.turn_lock.proofs.turns.Turns.new.Given as goal

abbrev pub invariant-loop : goal.invariant-loop
invariant-loop g l = (left : ℕ) × (l.first.table_id ≡ l.turns.lock) × (l.first.me ≡ (opened (g.P.Standing.opens l.fn.value) (suc left), []))
    × (new_seats l.turns.lock (g.P.Standing.opens l.fn.value) l.fn.seats ≡ l.row.items ++ new_seats l.turns.lock (g.P.Standing.opens l.fn.value) (suc left))
    × (length l.row.items + suc left ≡ l.fn.seats) × (l.counter + left ≡ l.fn.seats) × (l.fn.seats ≤ vec_capacity l.row)
