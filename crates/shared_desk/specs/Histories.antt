-- One history that many seats share, this server's own.
use Rattle.std.specs.Prelude.{◌≡◌, ◌++◌, ℕ, List, [], ◌∷◌}
use Rattle.std.specs.List.{AllByRecursion}
use Rattle.js_model.specs.Lists.{Apart}
use Rattle.histories.specs.Entries.{Entry}
use Rattle.histories.specs.Fronts.{Begins, own}
use Rattle.turn_lock.specs.Seats.{SeatView}

abbrev pub all_numbers : List SeatView → List ℕ
all_numbers [] = []
all_numbers (seat ∷ more) = seat.numbers ++ all_numbers more

-- no two of them have a number in common
abbrev pub AreApart : List SeatView → Type 0
AreApart [] = Unit {0}
AreApart (seat ∷ more) = AllByRecursion (λ (other : SeatView). Apart seat.numbers other.numbers) more × AreApart more

-- The history begins with the front of each seat, has what each left once and in order, and nothing else
pub record AreAllOf (seats : List SeatView) (history : List Entry) : Type 0 where
  pub begins : AllByRecursion (λ (seat : SeatView). Begins history seat.front) seats
  pub once : AllByRecursion (λ (seat : SeatView). own seat.numbers history ≡ own seat.numbers seat.front) seats
  pub apart : AreApart seats
  pub no_others : own (all_numbers seats) history ≡ history
