-- What is left of a desk: its volumes, to which all that was made was brought as far as it could be.
use Rattle.std.specs.Prelude.{◌≡◌, ◌+◌, ℕ, List, [], ◌∷◌, map, Option, None, Some, Result, Ok, Err}
use Rattle.std.specs.List.{AllZip}
use Rattle.js_model.specs.declared.stream.State.{State}
use Rattle.js_model.specs.Lasting.{lasting}
use Rattle.js_model.specs.PlaceStates.{PlaceIn}
use Rattle.place_engine.specs.Flushing.{Flushes}
use Rattle.place_engine.specs.Opening.{AllHold}
use Rattle.place_engine.specs.Stepping.{Image, Seen}
use Rattle.place_engine.specs.declared.faults.PlaceFault.{PlaceFault}
use Rattle.crash_laws.specs.Outlasting.{Outlasts}
use Rattle.desk_places.specs.Places.{places_by}
use Rattle.desk_places.specs.declared.faults.Closed.{Closed}

-- what the flush of a place answered, if it was not stopped before, and its volume
pub record End (V : Type 0) : Type 0 where
  pub told : Option (Result (Unit {0}) PlaceFault)
  pub vol : V

-- the first failure, counted from a place on
abbrev pub first_failure : ℕ → List (Option (Result (Unit {0}) PlaceFault)) → Option (ℕ × PlaceFault)
first_failure place [] = None
first_failure place (None ∷ more) = first_failure (place + 1) more
first_failure place (Some (Ok done) ∷ more) = first_failure (place + 1) more
first_failure place (Some (Err fault) ∷ more) = Some (place, fault)

-- the failure that was there, or else the one of this place
abbrev pub failure_or : Option (ℕ × PlaceFault) → ℕ → Option (Result (Unit {0}) PlaceFault) → Option (ℕ × PlaceFault)
failure_or (Some failed) place told = Some failed
failure_or None place None = None
failure_or None place (Some (Ok done)) = None
failure_or None place (Some (Err fault)) = Some (place, fault)

-- Of a kind of place: what contracts see of it, its volume, which state an image holds, what reads of a volume give and what a crash may have left of it, its
-- moment, which states it may hold, and what a call may make of it.
module _ {P V : Type 0} (seen : P → Seen) (vol : P → V) (holds : Image → State → Type 0) (reads : V → Image → Type 0) (left : V → ℕ → Image → Type 0) (clock : V → ℕ)
    (base : Option ℕ → V → State → Type 0) (keeps : V → V → Type 0) where
  -- it was flushed with this result, and is this place then
  pub record Flushed (told : Result (Unit {0}) PlaceFault) (p q : P) : Type 0 where
    pub going : (seen p).place.stopped ≡ None
    pub flushes : Flushes holds told (seen p) (seen q)
    pub volume : keeps (vol p) (vol q)

  -- A place that was not stopped was flushed; one that was stopped has its volume as it was. After a flush that succeeded the volume holds what outlives a
  -- crash of the state of its place.
  abbrev pub EndsSo : P → Option (Result (Unit {0}) PlaceFault) → V → Type 0
  EndsSo p None end = ((count : ℕ) × ((seen p).place.stopped ≡ Some count)) × (end ≡ vol p)
  EndsSo p (Some (Ok done)) end = ((q : P) × Flushed (Ok done) p q × (end ≡ vol q)) × AllHold holds reads left clock end (lasting (seen p).place.state)
  EndsSo p (Some (Err fault)) end = (q : P) × Flushed (Err fault) p q × (end ≡ vol q)

  -- nothing was made in that
  pub record EndsAt (p : P) (end : End V) : Type 0 where
    pub ends : EndsSo p end.told end.vol
    pub stopped : Option ℕ
    pub outlasts : Outlasts holds left clock (base (seen p).place.stopped (vol p)) (base stopped end.vol) [] (seen p).place.state (seen p).place.state (vol p) end.vol

  -- the places were flushed in their order, and these are their volumes and the first failure
  pub record AreClosed (row : List P) (vols : List V) (failed : Option (ℕ × PlaceFault)) : Type 0 where
    pub ends : List (End V)
    pub ended : AllZip EndsAt row ends
    pub after : vols ≡ map (λ (e : End V). e.vol) ends
    pub failed_is : failed ≡ first_failure 0 (map (λ (e : End V). e.told) ends)

  -- the places that stand there, with these volumes, were
  pub record Closes (vols : List V) (places : List PlaceIn) (closed : Closed V) : Type 0 where
    pub row : List P
    pub stand : places_by seen row ≡ places
    pub before : map vol row ≡ vols
    pub closes : AreClosed row closed.vols.items closed.failed
