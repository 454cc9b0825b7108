-- The runs that the entries of a desk of one caller make: one of its router, one of its catalog, and one of each of its places.
use Rattle.std.specs.Prelude.{◌≡◌, ◌≤◌, ◌==◌, ℕ, List, [], ◌∷◌, ◌++◌, map, length, None, Some, slice_get, if◌then◌else◌}
use Rattle.js_base.specs.declared.out.Out.{Out}
use Rattle.js_model.specs.declared.entry.PlaceEntry.{PlaceEntry}
use Rattle.js_model.specs.Runs.{Run, messages_of}
use Rattle.js_model.specs.Router.{RouteCall, RouteTold, RouteEntry, RouteRun, Publish, Interest, Listens}
use Rattle.js_model.specs.Catalog.{CatCall, CatTold, CatEntry, CatRun, NextUsed, At}
use Rattle.js_api.specs.Entries.{Reading, Hold, entries_in, DeskEntry, Routed, Looked, Turned, Resumed, Held, Stirred, Halted, Missed, Spent}
use Rattle.js_model.specs.PlaceStates.{PlaceIn}
use Rattle.js_api.specs.Worlds.{Scene, SoloStep}
use Rattle.js_api.specs.Leading.{Leads}
use Rattle.js_api.specs.Outputs.{outs_of}

-- ---- of the router

abbrev pub call_made : RouteCall → RouteTold → RouteEntry
call_made call told = record { seat = 0; call = call; told = told }

abbrev pub read : Reading → RouteEntry
read reading = call_made (Interest reading.subject reading.group) (Listens reading.heard)

-- each output was published by the server itself, whatever the router told
abbrev pub ArePublished : List Out → List RouteEntry → Type 0
ArePublished [] calls = calls ≡ []
ArePublished (out ∷ outs) calls =
    (told : RouteTold) × (more : List RouteEntry) × (calls ≡ call_made (Publish out None) told ∷ more) × ArePublished outs more

-- the calls of a hold: who listens, and then all that it sends
abbrev pub AreOfHold : Hold → List RouteEntry → Type 0
AreOfHold hold calls =
    (published : List RouteEntry) × (calls ≡ map read hold.readings ++ published) × ArePublished (outs_of hold.before (entries_in hold)) published

-- the calls of an entry
abbrev pub AreOfEntry : DeskEntry → List RouteEntry → Type 0
AreOfEntry (Routed call told) calls = calls ≡ call_made call told ∷ []
AreOfEntry (Looked joined call told) calls = calls ≡ []
AreOfEntry (Turned after found) calls = calls ≡ []
AreOfEntry (Resumed last) calls = calls ≡ []
AreOfEntry (Held hold) calls = AreOfHold hold calls
AreOfEntry (Stirred at before after failed) calls = calls ≡ []
AreOfEntry (Halted at state) calls = calls ≡ []
AreOfEntry (Missed at kept) calls = calls ≡ []
AreOfEntry (Spent number) calls = calls ≡ []

abbrev pub AreCalls : List DeskEntry → List RouteEntry → Type 0
AreCalls [] calls = calls ≡ []
AreCalls (entry ∷ entries) calls = (first more : List RouteEntry) × (calls ≡ first ++ more) × AreOfEntry entry first × AreCalls entries more

-- ---- of the catalog

abbrev pub look_made : CatCall → CatTold → CatEntry
look_made call told = record { seat = 0; call = call; told = told }

abbrev pub looks : List DeskEntry → List CatEntry
looks [] = []
looks (Routed call told ∷ more) = looks more
looks (Looked joined call told ∷ more) = look_made call told ∷ looks more
looks (Turned after found ∷ more) = look_made (NextUsed after) (At found) ∷ looks more
looks (Resumed last ∷ more) = looks more
looks (Held hold ∷ more) = looks more
looks (Stirred at before after failed ∷ more) = looks more
looks (Halted at state ∷ more) = looks more
looks (Missed at kept ∷ more) = looks more
looks (Spent number ∷ more) = looks more

-- ---- of a place

abbrev pub held_at : ℕ → Hold → List PlaceEntry
held_at place hold = if hold.at.place == place then entries_in hold else []

abbrev pub steps_at : ℕ → List DeskEntry → List PlaceEntry
steps_at place [] = []
steps_at place (Routed call told ∷ more) = steps_at place more
steps_at place (Looked joined call told ∷ more) = steps_at place more
steps_at place (Turned after found ∷ more) = steps_at place more
steps_at place (Resumed last ∷ more) = steps_at place more
steps_at place (Held hold ∷ more) = held_at place hold ++ steps_at place more
steps_at place (Stirred at before after failed ∷ more) = steps_at place more
steps_at place (Halted at state ∷ more) = steps_at place more
steps_at place (Missed at kept ∷ more) = steps_at place more
steps_at place (Spent number ∷ more) = steps_at place more

-- from what stands there to what stands there at the end, if no more messages count against its store than stand there
pub record PlaceRuns (entries : List DeskEntry) (old new : Scene) (place : ℕ) (before : PlaceIn) : Type 0 where
  pub after : PlaceIn
  pub is_there : slice_get new.world.places place ≡ Some after
  pub run : before.stored ≤ length (messages_of before.state) → Run before.state (steps_at place entries) after.state

-- ---- the three

pub record Runs (entries : List DeskEntry) (old new : Scene) : Type 0 where
  pub calls : List RouteEntry
  pub are_calls : AreCalls entries calls
  pub router : RouteRun old.world.router calls new.world.router
  pub catalog : CatRun old.world.catalog (looks entries) new.world.catalog
  pub places : (place : ℕ) (before : PlaceIn) → slice_get old.world.places place ≡ Some before → PlaceRuns entries old new place before

-- entries that lead a desk of one caller from the one state to the other are these runs
abbrev pub LawRuns : Type 0
LawRuns = (old new : Scene) (entries : List DeskEntry) → Leads SoloStep old entries new → Runs entries old new
