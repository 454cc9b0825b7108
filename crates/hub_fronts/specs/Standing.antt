-- What stands at a place after its history, by rules of this server's own.
use Rattle.std.specs.Prelude.{◌≡◌, ◌≤◌, ℕ, false, List, None, IfSome, length, map}
use Rattle.js_base.specs.Causes.{Rose}
use Rattle.js_model.specs.declared.stream.State.{State}
use Rattle.js_model.specs.declared.entry.PlaceEntry.{PlaceEntry}
use Rattle.js_model.specs.PlaceStates.{PlaceIn, VolumeAt}
use Rattle.js_model.specs.Runs.{Run, messages_of, total_of}
use Rattle.js_api.specs.Worlds.{IsLater, is_broken}
use Rattle.histories.specs.Entries.{Entry, AtPlace, Opening, OfPlace, OfRouter, OfCatalog}

-- The entries are steps of the place, and lead from its opening state to what stands there. If the last one is broken it is stopped; and it is only if its
-- volume's count of faults is above the one at the opening.
pub record IsStanding (state : State) (faults : ℕ) (entries : List Entry) (place : PlaceIn) : Type 0 where
  pub steps : List PlaceEntry
  pub same : entries ≡ map AtPlace steps
  pub run : Run state steps place.state
  pub stored : place.stored ≤ total_of (length (messages_of state)) state steps place.state run
  pub opened : VolumeAt
  pub count : opened.faults ≡ faults
  pub later : IsLater opened place.volume
  pub whole : place.stopped ≡ None → is_broken steps ≡ false
  pub stops : IfSome place.stopped (λ count. (count ≡ place.volume.faults) × Rose opened.faults count)

-- from the opening state of a place
abbrev pub StandsAt : Opening → List Entry → PlaceIn → Type 0
StandsAt (OfPlace state faults port) entries place = IsStanding state faults entries place
StandsAt OfRouter entries place = ⊥
StandsAt (OfCatalog catalog) entries place = ⊥
