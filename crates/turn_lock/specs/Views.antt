-- What a seat of a lock knows, this server's own.
use Rattle.std.specs.Prelude.{ℕ, zero, suc, List, [], ◌∷◌, ◌++◌, max}
use Rattle.histories.specs.Entries.{Entry, Opening, OfRouter}

-- where a seat is between two turns and within one
pub data Stage : Type 0 where
  Idle : Stage
  -- it has drawn this ticket
  Drawn : (ticket : ℕ) → Stage
  -- its ticket is served, and it has the value
  Inside : (ticket : ℕ) → Stage
  -- it has taken in another seat: the fronts and numbers of both, until one look compares them
  Met : (xs : List Entry) (ns : List ℕ) (ys : List Entry) (ms : List ℕ) → Stage
  -- another seat has taken it in
  Spent : Stage

-- the opening state, what was seen of the history, the numbers under which it leaves entries, and how many tickets it knows to be drawn
pub record View : Type 0 where
  pub opening : Opening
  pub front : List Entry
  pub numbers : List ℕ
  pub stage : Stage
  pub drawn : ℕ

abbrev pub view : Opening → List Entry → List ℕ → Stage → ℕ → View
view o front numbers stage drawn = record { opening = o; front = front; numbers = numbers; stage = stage; drawn = drawn }

-- ---- numbers

-- a seat leaves its entries under the first of its numbers
abbrev pub first_of : List ℕ → ℕ
first_of [] = 0
first_of (n ∷ ns) = n

abbrev pub rest_of : List ℕ → List ℕ
rest_of [] = []
rest_of (n ∷ ns) = ns

-- the numbers below n, the greatest first
abbrev pub below : ℕ → List ℕ
below zero = []
below (suc n) = n ∷ below n

-- ---- how a view changes

abbrev pub at_stage : View → Stage → View
at_stage v stage = view v.opening v.front v.numbers stage v.drawn

-- a seat that has seen how many tickets are drawn
abbrev pub counted : View → ℕ → View
counted v n = view v.opening v.front v.numbers v.stage n

-- a seat that has drawn a ticket
abbrev pub with_ticket : View → ℕ → View
with_ticket v t = view v.opening v.front v.numbers (Drawn t) (suc t)

-- the first seat, before the others are split from it
abbrev pub opened : Opening → ℕ → View
opened o seats = view o [] (below seats) Idle 0

-- the seat that keeps all but the first number, and the new one that has it
abbrev pub kept_back : View → View
kept_back v = view v.opening v.front (rest_of v.numbers) Idle v.drawn

abbrev pub dealt : View → View
dealt v = view v.opening v.front (first_of v.numbers ∷ []) Idle v.drawn

-- what was seen, with no number
abbrev pub note : View → View
note v = view v.opening v.front [] Idle v.drawn

-- a seat that has left with these entries
abbrev pub left_with : View → List Entry → View
left_with v entries = view v.opening (v.front ++ entries) v.numbers Idle v.drawn

-- of two beginnings of one history, the longer
abbrev pub longer : List Entry → List Entry → List Entry
longer [] ys = ys
longer (x ∷ xs) [] = x ∷ xs
longer (x ∷ xs) (y ∷ ys) = x ∷ longer xs ys

-- a seat that has taken in another
abbrev pub met : View → View → View
met v w = view v.opening (longer v.front w.front) (v.numbers ++ w.numbers) (Met v.front v.numbers w.front w.numbers) (max v.drawn w.drawn)

abbrev pub spent : View
spent = view OfRouter [] [] Spent 0
