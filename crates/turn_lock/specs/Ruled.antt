-- The rule of a lock's two words, its slot and its seats, this server's own. Word 0 is the next ticket, word 1 the ticket that is served.
use Rattle.std.specs.Prelude.{◌≡◌, ◌⊎◌, ⊤, ℕ, suc, ◌<◌, ◌≤◌, List, ◌++◌, length, slice_index, true, Option, Some}
use mathlib.Core.Option as opt
use lib.ListN.{get_elem?}
use Rattle.std.specs.List.{AllByRecursion}
use Rattle.atomic_table.specs.Table.{State}
use Rattle.js_base.specs.Bytes.{has}
use Rattle.js_model.specs.Lists.{Apart}
use Rattle.histories.specs.Entries.{Entry, Opening, seat_of}
use Rattle.histories.specs.Fronts.{AreForeign, Grows, OneBegins}
use Rattle.turn_lock.specs.Views.{View, Stage, Idle, Drawn, Inside, Met, Spent, first_of}
use Rattle.turn_lock.specs.declared.kept.Kept.{Kept}

-- 2 to the 62nd: the ticket that is never drawn
abbrev pub last_ticket : ℕ
last_ticket = 4611686018427387904

-- each entry is by a seat with a number below that
abbrev pub AreMade : ℕ → List Entry → Type 0
AreMade seats entries = AllByRecursion (λ e. seat_of e < seats) entries

-- a front that both of two fronts grew to, and the numbers of the seats that had seen them
pub record Meeting (front xs : List Entry) (ns : List ℕ) (ys : List Entry) (ms : List ℕ) : Type 0 where
  pub first : Grows ns xs front
  pub second : Grows ms ys front
  pub one_begins : OneBegins xs ys
  pub two : Apart ns ms

-- a seat has its own number
abbrev pub IsNumbered : View → Type 0
IsNumbered v = has v.numbers (first_of v.numbers) ≡ true

-- ---- what a seat's stage says, by which seat drew each ticket and which ticket is served

abbrev pub Doing : List Entry → List ℕ → ℕ → ℕ → View → Stage → Type 0
Doing history drew serving seat v Idle = v.drawn ≤ length drew
Doing history drew serving seat v (Drawn t) = (get_elem? drew t ≡ opt.some seat) × (serving ≤ t) × IsNumbered v × (v.drawn ≡ suc t)
Doing history drew serving seat v (Inside t) = (get_elem? drew t ≡ opt.some seat) × (t ≡ serving) × IsNumbered v × (v.front ≡ history) × (v.drawn ≡ suc t)
Doing history drew serving seat v (Met xs ns ys ms) = Meeting v.front xs ns ys ms × (v.drawn ≤ length drew)
Doing history drew serving seat v Spent = ⊤

-- of a spent seat nothing is said
abbrev pub UnlessSpent : Stage → Type 0 → Type 0
UnlessSpent Idle A = A
UnlessSpent (Drawn t) A = A
UnlessSpent (Inside t) A = A
UnlessSpent (Met xs ns ys ms) A = A
UnlessSpent Spent A = ⊤

module _ (legal : Opening → List Entry → Type 0) (o : Opening) (seats : ℕ) where
  -- a seat's front is a lawful beginning of the history, what it has not seen is by others, and its numbers are its own
  pub record IsSound (history : List Entry) (owner : ℕ → ℕ) (seat : ℕ) (v : View) : Type 0 where
    pub opening : v.opening ≡ o
    pub later : List Entry
    pub behind : history ≡ v.front ++ later
    pub foreign : AreForeign v.numbers later
    pub owns : (n : ℕ) → has v.numbers n ≡ true → (owner n ≡ seat) × (n < seats)
    pub lawful : legal o v.front

  abbrev pub Knows : List Entry → List ℕ → (ℕ → ℕ) → ℕ → ℕ → View → Type 0
  Knows history drew owner serving seat v = UnlessSpent v.stage (IsSound history owner seat v × Doing history drew serving seat v v.stage)

  module _ {S : Type 0} (stands : Opening → List Entry → S → Type 0) where
    abbrev Content : Type 0
    Content = Option (Kept S)

    -- the value is at home and stands for the history, or the seat that is inside has it
    abbrev pub Lies : List Entry → List (opt.Option Content) → List View → ℕ → Type 0
    Lies history homes views serving = ((k : Kept S) × (get_elem? homes 0 ≡ opt.some (opt.some (Some k))) × stands o history k.value)
        ⊎ ((get_elem? homes 0 ≡ opt.some opt.none) × (by : ℕ) × (v : View) × (get_elem? views by ≡ opt.some v) × (v.stage ≡ Inside serving))

    -- there is one history, and which seat drew each ticket and which has each number
    pub record IsRuled (s : State Content View) : Type 0 where
      pub history : List Entry
      pub drew : List ℕ
      pub owner : ℕ → ℕ
      pub wide : length s.words ≡ 2
      pub tickets : length drew ≡ slice_index s.words 0
      pub behind : slice_index s.words 1 ≤ slice_index s.words 0
      pub low : slice_index s.words 0 ≤ last_ticket
      pub made : AreMade seats history
      pub lies : Lies history s.homes s.views (slice_index s.words 1)
      pub each_seat : (j : ℕ) (v : View) → get_elem? s.views j ≡ opt.some v → Knows history drew owner (slice_index s.words 1) j v
