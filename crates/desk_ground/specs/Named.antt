-- A stream that was looked up by its name, and what a call makes of it.
use Rattle.std.specs.Prelude.{List, Option, MatchOption, Result}
use Rattle.js_model.specs.declared.desk.PlaceAt.{PlaceAt}
use Rattle.js_api.specs.declared.fault.DeskFault.{DeskFault}
use Rattle.js_api.specs.Entries.{DeskEntry}

-- the call goes on by whether the stream is there
abbrev pub GoesOnNamed : {X : Type 0} → (Result X DeskFault → List DeskEntry → Type 0) → (PlaceAt → Result X DeskFault → List DeskEntry → Type 0) → Option PlaceAt → Result X DeskFault → List DeskEntry → Type 0
GoesOnNamed Absent Present found result entries = MatchOption found (Absent result entries) (λ at. Present at result entries)
