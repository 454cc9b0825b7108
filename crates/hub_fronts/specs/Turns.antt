-- What a turn makes of a seat, this server's own: the seat sees what others had left by then, and leaves entries of its own.
use Rattle.std.specs.Prelude.{◌≡◌, ◌<◌, ◌≤◌, true, List, ◌++◌}
use Rattle.js_base.specs.Bytes.{has}
use Rattle.histories.specs.Entries.{Entry, Opening, AreBy}
use Rattle.histories.specs.Fronts.{Begins, Grows, own}
use Rattle.turn_lock.specs.Calls.{added, number_of}
use Rattle.turn_lock.specs.Ruled.{last_ticket}
use Rattle.turn_lock.specs.Seats.{SeatView}

-- the seat has seen more, which is by others
pub record HasSeen (old new : SeatView) : Type 0 where
  pub lock : new.lock ≡ old.lock
  pub opening : new.opening ≡ old.opening
  pub numbers : new.numbers ≡ old.numbers
  pub grows : Grows old.numbers old.front new.front
  pub drawn : old.drawn ≤ new.drawn

-- within its turn the seat left these entries, each with its number, which is one of its own
pub record Leaves (lawful : Opening → List Entry → Type 0) (entries : List Entry) (old new : SeatView) : Type 0 where
  pub behind : new ≡ added old entries
  pub by : AreBy (number_of old) entries
  pub among : has old.numbers (number_of old) ≡ true
  pub is_lawful : lawful old.opening (old.front ++ entries)

-- the seat drew a ticket, came in, and left these entries
pub record TakesTurn (lawful : Opening → List Entry → Type 0) (entries : List Entry) (old new : SeatView) : Type 0 where
  pub inside : SeatView
  pub sees : HasSeen old inside
  pub ticket : old.drawn < inside.drawn
  pub low : inside.drawn ≤ last_ticket
  pub leaves : Leaves lawful entries inside new

-- by turns of the seat and of others its front grew, and its own entries there by these
pub record HasGrown (entries : List Entry) (old new : SeatView) : Type 0 where
  pub lock : new.lock ≡ old.lock
  pub opening : new.opening ≡ old.opening
  pub numbers : new.numbers ≡ old.numbers
  pub begins : Begins new.front old.front
  pub mine : own old.numbers new.front ≡ own old.numbers old.front ++ entries
