-- A stream that is made at the place that was taken for it.
use Rattle.std.specs.Prelude.{◌≡◌, ◌++◌, ℕ, List}
use Rattle.js_model.specs.declared.event.What.{What}
use Rattle.js_model.specs.declared.desk.PlaceAt.{PlaceAt}
use Rattle.js_api.specs.declared.outcome.Outcome.{Outcome}
use Rattle.js_api.specs.Entries.{DeskEntry}
use Rattle.js_api.specs.Holding.{Holds}
use Rattle.js_api.specs.OneStream.{free_unless_made}

-- a hold on the place, which is free again unless the stream was made
pub record IsMadeAt (at : PlaceAt) (what : What) (now : ℕ) (outcome : Outcome) (entries : List DeskEntry) : Type 0 where
  pub held : List DeskEntry
  pub entries_are : entries ≡ held ++ free_unless_made at outcome.became
  pub holds : Holds at what now outcome held
