-- All seats that a lock was given, this server's own.
use Rattle.std.specs.Prelude.{◌≡◌, ◌<◌, List}
use Rattle.std.specs.List.{AllByRecursion}
use Rattle.turn_lock.specs.Calls.{HasAll}
use Rattle.turn_lock.specs.Seats.{LockView, SeatView}
use Rattle.shared_desk.specs.Histories.{all_numbers}

-- they are of this lock, which was given at least one, and no other seat was given
pub record AreAllSeats (of : LockView) (seats : List SeatView) : Type 0 where
  pub some : 0 < of.seats
  pub are_of : AllByRecursion (λ (seat : SeatView). seat.lock ≡ of.lock) seats
  pub all : HasAll of.seats (all_numbers seats)
