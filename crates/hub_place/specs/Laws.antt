-- What holds of a place that many callers hold whenever its turn is left, by the definitions alone.
use Rattle.std.specs.Prelude.{◌≡◌, ◌++◌, ℕ, List, Option, map}
use Rattle.js_model.specs.declared.stream.State.{State}
use Rattle.js_model.specs.declared.entry.PlaceEntry.{PlaceEntry}
use Rattle.js_model.specs.Lasting.{lasting}
use Rattle.js_model.specs.PlaceStates.{PlaceIn}
use Rattle.histories.specs.Entries.{Entry, AtPlace, OfPlace, SeatId}
use Rattle.turn_lock.specs.Seats.{SeatView}
use Rattle.desk_hold.specs.Crashes.{Chain}
use Rattle.hub_place.specs.Kinds.{PlaceIs}

-- this is what outlives a crash of the state behind a beginning of the entries, and none of the others is confirmed
pub record IsLastingOf (old : State) (entries : List Entry) (new left : State) : Type 0 where
  pub first : List PlaceEntry
  pub more : List PlaceEntry
  pub entries_are : entries ≡ map AtPlace (first ++ more)
  pub mid : State
  pub stays : Chain (Unit {0}) old first mid
  pub lost : Chain ⊥ mid more new
  pub left_is : left ≡ lasting mid

module _ {V Image : Type 0} (holds : Image → State → Type 0) (left : V → ℕ → Image → Type 0) (clock : V → ℕ) (base : Option ℕ → V → State → Type 0) (keeps : V → V → Type 0) where
  -- each image that a crash now may leave of the volume holds what outlives a crash of the state behind a beginning of the history, with all that are
  -- confirmed
  abbrev pub LawValue : Type 0
  LawValue = (state : State) (faults : ℕ) (id : SeatId) (entries : List Entry) (place : PlaceIn) (vol : V) (port : SeatView)
      → PlaceIs holds left clock base keeps (OfPlace state faults id) entries place vol port
      → (image : Image) → left vol (clock vol) image → (l : State) × holds image l × IsLastingOf state entries place.state l
