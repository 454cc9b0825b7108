-- Whether a caller is in a turn of the catalog, and after which calls.
use Rattle.std.specs.Prelude.{ℕ, Bool, Result, Ok, Err, if◌then◌else◌}
use Rattle.js_model.specs.declared.catalog_fault.CatalogFault.{CatalogFault}
use Rattle.desk_ground.specs.Grounds.{Phase}
use Rattle.desk_ground.specs.Grounds as phases
use Rattle.desk_places.specs.declared.turn.Turn.{Turn}
use Rattle.desk_places.specs.declared.turn.Turn.TheVariants as turns

abbrev pub phase_of : Turn → Phase
phase_of turns.Outside = phases.Outside
phase_of turns.Within = phases.Within
phase_of (turns.Between place) = phases.Between place
phase_of (turns.Owing place) = phases.Owing place

-- after the subjects of the stream of a place were changed, or were not
abbrev pub after_change : Turn → Result (Unit {0}) CatalogFault → ℕ → Turn
after_change turn (Ok done) place = turns.Between place
after_change turn (Err fault) place = turn

-- the turn after a hold, by which a stream was dropped or not
abbrev pub after_hold : Turn → Bool → ℕ → Turn
after_hold turn dropped place = if dropped then turns.Owing place else turn
