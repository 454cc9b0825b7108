-- The places of a desk, as contracts see them.
use Rattle.std.specs.Prelude.{List, map}
use Rattle.js_model.specs.PlaceStates.{PlaceIn}
use Rattle.place_engine.specs.Stepping.{Seen}

-- the places of a row, as their kind shows them
abbrev pub places_by : {P : Type 0} → (P → Seen) → List P → List PlaceIn
places_by seen row = map (λ p. (seen p).place) row
