-- Which of a caller's entries stand at which lock, this server's own.
use Rattle.std.specs.Prelude.{ℕ, List, [], ◌∷◌, ◌++◌, map, ◌==◌, if◌then◌else◌}
use Rattle.js_model.specs.Catalog.{NextUsed, At}
use Rattle.js_api.specs.Entries.{Hold, entries_in, DeskEntry, Routed, Looked, Turned, Resumed, Held, Stirred, Halted, Missed, Spent}
use Rattle.histories.specs.Entries.{Entry, AtPlace}
use Rattle.hub_fronts.specs.Stepping.{routed_by, looked_by}

-- at the router, by a seat of this number: the calls of the caller itself. What its holds send stands there by the seats of their places
abbrev pub routed : ℕ → List DeskEntry → List Entry
routed seat [] = []
routed seat (Routed call told ∷ more) = routed_by seat call told ∷ routed seat more
routed seat (Looked joined call told ∷ more) = routed seat more
routed seat (Turned after found ∷ more) = routed seat more
routed seat (Resumed last ∷ more) = routed seat more
routed seat (Held hold ∷ more) = routed seat more
routed seat (Stirred at before after failed ∷ more) = routed seat more
routed seat (Halted at state ∷ more) = routed seat more
routed seat (Missed at kept ∷ more) = routed seat more
routed seat (Spent number ∷ more) = routed seat more

-- at the catalog, by a seat of this number
abbrev pub looked : ℕ → List DeskEntry → List Entry
looked seat [] = []
looked seat (Routed call told ∷ more) = looked seat more
looked seat (Looked joined call told ∷ more) = looked_by seat call told ∷ looked seat more
looked seat (Turned after found ∷ more) = looked_by seat (NextUsed after) (At found) ∷ looked seat more
looked seat (Resumed last ∷ more) = looked seat more
looked seat (Held hold ∷ more) = looked seat more
looked seat (Stirred at before after failed ∷ more) = looked seat more
looked seat (Halted at state ∷ more) = looked seat more
looked seat (Missed at kept ∷ more) = looked seat more
looked seat (Spent number ∷ more) = looked seat more

abbrev pub held_at : ℕ → Hold → List Entry
held_at place hold = if hold.at.place == place then map AtPlace (entries_in hold) else []

-- at the place of this number
abbrev pub placed : ℕ → List DeskEntry → List Entry
placed place [] = []
placed place (Routed call told ∷ more) = placed place more
placed place (Looked joined call told ∷ more) = placed place more
placed place (Turned after found ∷ more) = placed place more
placed place (Resumed last ∷ more) = placed place more
placed place (Held hold ∷ more) = held_at place hold ++ placed place more
placed place (Stirred at before after failed ∷ more) = placed place more
placed place (Halted at state ∷ more) = placed place more
placed place (Missed at kept ∷ more) = placed place more
placed place (Spent number ∷ more) = placed place more
