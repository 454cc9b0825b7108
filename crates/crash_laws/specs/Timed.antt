-- The entries of the run of a place, each with the moment of its volume by which it was answered.
use Rattle.std.specs.Prelude.{◌==◌, ℕ, List, [], ◌∷◌, ◌++◌, map, if◌then◌else◌}
use Rattle.js_model.specs.declared.entry.PlaceEntry.{PlaceEntry}
use Rattle.js_api.specs.Entries.{Hold, DeskEntry, Routed, Looked, Turned, Resumed, Held, Stirred, Halted, Missed, Spent}

pub record Timed : Type 0 where
  pub entry : PlaceEntry
  pub by : ℕ

abbrev pub answered_by : ℕ → PlaceEntry → Timed
answered_by moment entry = record { entry = entry; by = moment }

-- the steps of a hold are answered once they are made, and its deliveries at its end
abbrev pub timed_in : Hold → List Timed
timed_in hold = map (answered_by hold.volume_between.moment) hold.steps ++ map (answered_by hold.volume_after.moment) hold.deliveries

abbrev pub timed_held_at : ℕ → Hold → List Timed
timed_held_at place hold = if hold.at.place == place then timed_in hold else []

-- what stands of these in the run of a place
abbrev pub timed_at : ℕ → List DeskEntry → List Timed
timed_at place [] = []
timed_at place (Routed call told ∷ more) = timed_at place more
timed_at place (Looked joined call told ∷ more) = timed_at place more
timed_at place (Turned after found ∷ more) = timed_at place more
timed_at place (Resumed last ∷ more) = timed_at place more
timed_at place (Held hold ∷ more) = timed_held_at place hold ++ timed_at place more
timed_at place (Stirred at before after failed ∷ more) = timed_at place more
timed_at place (Halted at state ∷ more) = timed_at place more
timed_at place (Missed at kept ∷ more) = timed_at place more
timed_at place (Spent number ∷ more) = timed_at place more
