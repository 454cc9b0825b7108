-- What the calls of a lock do to its seats, this server's own.
use Rattle.std.specs.Prelude.{◌≡◌, ℕ, zero, suc, ◌-◌, ◌<◌, ◌≤◌, List, [], ◌∷◌, ◌++◌, true, max}
use Rattle.atomic_table.specs.Seated.{TableId}
use Rattle.js_base.specs.Bytes.{has}
use Rattle.js_model.specs.Lists.{Apart}
use Rattle.histories.specs.Entries.{Entry, Opening}
use Rattle.histories.specs.Fronts.{Begins, Grows, OneBegins}
use Rattle.turn_lock.specs.Views.{first_of}
use Rattle.turn_lock.specs.Ruled.{last_ticket}
use Rattle.turn_lock.specs.Seats.{SeatView}

-- the number under which a seat leaves its entries
abbrev pub number_of : SeatView → ℕ
number_of s = first_of s.numbers

-- how many tickets more may be drawn, as far as the seat knows
abbrev pub left : SeatView → ℕ
left s = last_ticket - s.drawn

-- ---- new

abbrev pub new_seat : TableId → Opening → ℕ → SeatView
new_seat lock o n = record { lock = lock; opening = o; front = []; numbers = n ∷ []; drawn = 0 }

-- so many seats, each with a number of its own, the greatest first, that have seen nothing
abbrev pub new_seats : TableId → Opening → ℕ → List SeatView
new_seats lock o zero = []
new_seats lock o (suc n) = new_seat lock o n ∷ new_seats lock o n

-- ---- enter

-- a seat that has come in: its front is the history, for which the value stands, and begins with all that it had seen
pub record Comes {S : Type 0} (stands : Opening → List Entry → S → Type 0) (old new : SeatView) (value : S) : Type 0 where
  pub lock : new.lock ≡ old.lock
  pub opening : new.opening ≡ old.opening
  pub numbers : new.numbers ≡ old.numbers
  pub grows : Grows old.numbers old.front new.front
  pub stands_for : stands new.opening new.front value
  pub ticket : old.drawn < new.drawn
  pub low : new.drawn ≤ last_ticket

-- a seat that has seen that all tickets are drawn
abbrev pub worn : SeatView → SeatView
worn s = record s { drawn = last_ticket }

-- ---- leave

-- a seat that has left with these entries
abbrev pub added : SeatView → List Entry → SeatView
added s entries = record s { front = s.front ++ entries }

-- ---- meet and join

-- the seat, whose front now begins with the other's too
pub record HasMet (one other new : SeatView) : Type 0 where
  pub lock : new.lock ≡ one.lock
  pub opening : new.opening ≡ one.opening
  pub numbers : new.numbers ≡ one.numbers
  pub drawn : new.drawn ≡ max one.drawn other.drawn
  pub grows : Grows one.numbers one.front new.front
  pub begins : Begins new.front other.front
  pub one_begins : OneBegins one.front other.front

-- one seat of two: it has the numbers of both, and so the entries of both are its own
pub record IsJoined (one other new : SeatView) : Type 0 where
  pub lock : new.lock ≡ one.lock
  pub opening : new.opening ≡ one.opening
  pub numbers : new.numbers ≡ one.numbers ++ other.numbers
  pub apart : Apart one.numbers other.numbers
  pub drawn : new.drawn ≡ max one.drawn other.drawn
  pub first : Grows one.numbers one.front new.front
  pub second : Grows other.numbers other.front new.front
  pub one_begins : OneBegins one.front other.front

-- ---- close

-- every seat that the lock was given is joined into one of these numbers
abbrev pub HasAll : ℕ → List ℕ → Type 0
HasAll seats numbers = (n : ℕ) → n < seats → has numbers n ≡ true
