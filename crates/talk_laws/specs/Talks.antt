-- What holds of all that the entries of a desk of one caller did at one of its places, by rules of this server's own.
use Rattle.std.specs.Prelude.{◌≡◌, ◌≤◌, ◌++◌, ℕ, List, length, Some, slice_get}
use Rattle.js_model.specs.declared.entry.PlaceEntry.{PlaceEntry}
use Rattle.js_model.specs.PlaceStates.{PlaceIn}
use Rattle.js_model.specs.Runs.{messages_of}
use Rattle.model_laws.specs.Sound.{IsSound}
use Rattle.js_api.specs.Entries.{DeskEntry}
use Rattle.js_api.specs.Worlds.{Scene, SoloStep}
use Rattle.js_api.specs.Leading.{Leads}
use Rattle.js_api.specs.Machines.{steps_at}
use Rattle.talk_laws.specs.Parts.{Part, IsPartOf, Cut}

-- what stands at the place is sound, and no more messages count against its store than stand there
pub record IsSoundPlace (place : PlaceIn) : Type 0 where
  pub sound : IsSound place.state
  pub counted : place.stored ≤ length (messages_of place.state)

-- However the entries that were made at the place are cut in three, there are states between which the middle part stands, from what stood there at
-- first to what stands there at the end; and of each such part this holds.
pub record EachPart (Holds : Part → Type 0) (entries : List PlaceEntry) (before after : PlaceIn) : Type 0 where
  pub cut : (earlier part later : List PlaceEntry) → entries ≡ earlier ++ (part ++ later) → Cut before.state earlier part later after.state
  pub holds : (p : Part) → IsPartOf before.state entries after.state p → Holds p

-- the place is still there, and this holds of each part of what the entries did at it
pub record HoldsAt (Holds : Part → Type 0) (place : ℕ) (entries : List DeskEntry) (new : Scene) (before : PlaceIn) : Type 0 where
  pub after : PlaceIn
  pub is_there : slice_get new.world.places place ≡ Some after
  pub each : EachPart Holds (steps_at place entries) before after

-- if entries lead a desk of one caller from one state to another, then this holds of each part of what they did at each of its places that was sound
-- at first
abbrev pub InEachTalk : (Part → Type 0) → Type 0
InEachTalk Holds = (old new : Scene) (entries : List DeskEntry) → Leads SoloStep old entries new
    → (place : ℕ) (before : PlaceIn) → slice_get old.world.places place ≡ Some before → IsSoundPlace before → HoldsAt Holds place entries new before
