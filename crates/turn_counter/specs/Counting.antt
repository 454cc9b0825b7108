-- A counter behind a lock, and what its turns add.
use Rattle.std.specs.Prelude.{◌≡◌, ℕ, ◌+◌, Bool, true, length}
use Rattle.js_model.specs.Router.{Open, NoMemory}
use Rattle.histories.specs.Entries.{Entry, AtRouter}
use Rattle.histories.specs.Fronts.{own}
use Rattle.turn_lock.specs.Seats.{SeatView}

-- the entry of one turn: which call it is doesn't matter to a counter
abbrev pub counting_by : ℕ → Entry
counting_by seat = AtRouter (record { seat = seat; call = Open; told = NoMemory })

-- how many entries the seat has left
abbrev pub left_by : SeatView → ℕ
left_by s = length (own s.numbers s.front)

-- a seat of the same lock with the same numbers, which has left so many entries more where it says so
pub record HasCounted (times : ℕ) (old new : SeatView) (counted : Bool) : Type 0 where
  pub lock : new.lock ≡ old.lock
  pub numbers : new.numbers ≡ old.numbers
  pub more : counted ≡ true → left_by new ≡ left_by old + times
