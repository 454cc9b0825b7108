-- What a lock, a seat and a held value show, and what holds of each of them, this server's own.
use Rattle.std.specs.Prelude.{◌≡◌, ℕ, ◌<◌, List, [], ◌∷◌, Option, None}
use Rattle.atomic_table.specs.Table.{Me}
use Rattle.atomic_table.specs.Seated.{TableId}
use Rattle.histories.specs.Entries.{Entry, Opening}
use Rattle.turn_lock.specs.Views.{View, Idle, Inside, spent}
use Rattle.turn_lock.specs.Ruled.{IsNumbered}

-- ---- what is shown

-- which lock it is, in which state its history opens, and how many seats it was given
pub record LockView : Type 0 where
  pub lock : TableId
  pub opening : Opening
  pub seats : ℕ

-- the lock of a seat, the opening state, what the seat has seen of the history, its numbers, and how many tickets it knows to be drawn
pub record SeatView : Type 0 where
  pub lock : TableId
  pub opening : Opening
  pub front : List Entry
  pub numbers : List ℕ
  pub drawn : ℕ

abbrev pub shown : TableId → View → SeatView
shown lock v = record { lock = lock; opening = v.opening; front = v.front; numbers = v.numbers; drawn = v.drawn }

-- the one view of a seat
abbrev pub view_of : List View → View
view_of [] = spent
view_of (v ∷ vs) = v

-- ---- what holds of each

-- a lock has two words and one slot, and at least one seat
pub record IsLock (lock : TableId) (seats : ℕ) : Type 0 where
  pub words : lock.words ≡ 2
  pub slots : lock.slots ≡ 1
  pub some : 0 < seats

-- a seat that may draw a ticket, and what it has seen is lawful
pub record IsIdle (legal : Opening → List Entry → Type 0) (views : List View) : Type 0 where
  pub one : views ≡ view_of views ∷ []
  pub idle : (view_of views).stage ≡ Idle
  pub numbered : IsNumbered (view_of views)
  pub lawful : legal (view_of views).opening (view_of views).front

-- a seat that has the turn and the slot, out of which the value was taken, and what it has seen is lawful
pub record IsInside {C : Type 0} (legal : Opening → List Entry → Type 0) (me : Me (Option C) View) : Type 0 where
  pub ticket : ℕ
  pub inside : me.0.stage ≡ Inside ticket
  pub numbered : IsNumbered me.0
  pub empty : me.1 ≡ (0, None) ∷ []
  pub lawful : legal me.0.opening me.0.front
