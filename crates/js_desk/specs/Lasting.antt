-- What a crash may leave of the volumes of the places of a desk.
use Rattle.std.specs.Prelude.{◌≡◌, ℕ, List, Option, Some, slice_get}
use Rattle.js_model.specs.declared.stream.State.{State}
use Rattle.js_model.specs.PlaceStates.{PlaceIn}
use Rattle.js_api.specs.Entries.{DeskEntry}
use Rattle.crash_laws.specs.Outlasting.{Outlasts}
use Rattle.crash_laws.specs.Timed.{timed_at}
use Rattle.place_engine.specs.Stepping.{Image}

-- places, and their volumes
pub record Row (V : Type 0) : Type 0 where
  pub places : List PlaceIn
  pub vols : List V

-- Of a kind of place: which state an image of its volume holds, what a crash at some moment from one on may have left of the volume, its moment, and which
-- states it may hold whose place is stopped at a count of faults, or not stopped.
module _ {V : Type 0} (holds : Image → State → Type 0) (left : V → ℕ → Image → Type 0) (clock : V → ℕ) (base : Option ℕ → V → State → Type 0) where
  -- the place of this number is still there with its volume, of which a crash may leave what the entries made there, or a beginning of it
  pub record PlaceOutlasts (entries : List DeskEntry) (number : ℕ) (before : PlaceIn) (vol : V) (new : Row V) : Type 0 where
    pub after : PlaceIn
    pub end : V
    pub is_there : slice_get new.places number ≡ Some after
    pub is_vol : slice_get new.vols number ≡ Some end
    pub outlasts : Outlasts holds left clock (base before.stopped vol) (base after.stopped end) (timed_at number entries) before.state after.state vol end

  -- so it is with each place
  abbrev pub PlacesOutlast : Row V → List DeskEntry → Row V → Type 0
  PlacesOutlast old entries new = (number : ℕ) (before : PlaceIn) (vol : V) → slice_get old.places number ≡ Some before → slice_get old.vols number ≡ Some vol
      → PlaceOutlasts entries number before vol new
