-- What one seat has seen of a history, this server's own: a front, which is a beginning of it, and the seat's own entries there.
use Rattle.std.specs.Prelude.{◌≡◌, ◌⊎◌, ℕ, Bool, false, List, ◌++◌, filter}
use Rattle.std.specs.List.{AllByRecursion}
use Rattle.js_base.specs.Bytes.{has}
use Rattle.histories.specs.Entries.{Entry, seat_of}

-- ---- a seat's own entries

-- the entry is by one of the seats of these numbers
abbrev pub is_by : List ℕ → Entry → Bool
is_by numbers e = has numbers (seat_of e)

-- a seat's own entries in a history: those with one of its numbers, each once and in order
abbrev pub own : List ℕ → List Entry → List Entry
own numbers history = filter (is_by numbers) history

-- none of the entries is the seat's own
abbrev pub AreForeign : List ℕ → List Entry → Type 0
AreForeign numbers entries = AllByRecursion (λ e. is_by numbers e ≡ false) entries

-- ---- fronts

-- ys begins with xs
pub record Begins (ys xs : List Entry) : Type 0 where
  pub later : List Entry
  pub behind : ys ≡ xs ++ later

-- a front begins with what the seats of these numbers had seen, and what came later is by others
pub record Grows (numbers : List ℕ) (old new : List Entry) : Type 0 where
  pub later : List Entry
  pub behind : new ≡ old ++ later
  pub foreign : AreForeign numbers later

-- of two fronts one is a beginning of the other
abbrev pub OneBegins : List Entry → List Entry → Type 0
OneBegins xs ys = Begins xs ys ⊎ Begins ys xs
