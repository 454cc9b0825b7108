use Rattle.std.proofs.Common.{◌≡◌, ◌≤◌}
use Rattle.turn_lock.specs.Views.{counted}
use Rattle.turn_lock.specs.Ruled.{last_ticket}
use Rattle.turn_lock.proofs.turns.Turns.draw.Given as goal

abbrev pub invariant-loop : goal.invariant-loop
invariant-loop g l = (l.seat.table_id ≡ l.fn.seat.table_id) × (l.seat.me.0 ≡ counted l.fn.seat.me.0 l.ticket) × (l.seat.me.1 ≡ l.fn.seat.me.1) × (l.ticket ≤ last_ticket) × (l.fn.seat.me.0.drawn ≤ l.ticket)
