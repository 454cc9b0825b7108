-- The desk calls of a session, each with its answer and the entries that it made.
use Rattle.std.specs.Prelude.{List, Result}
use Rattle.std.specs.List.{flat_map}
use Rattle.js_api.specs.declared.fault.DeskFault.{DeskFault}
use Rattle.js_api.specs.Entries.{DeskEntry}
use Rattle.js_api.specs.Clients.{Client}
use Rattle.js_api.specs.Answering.{DeskCall, DeskAnswer}
use Rattle.js_api.specs.Calls.{Does}

-- a desk call with its answer, and the entries that it made
pub record Called : Type 0 where
  pub call : DeskCall
  pub answer : Result DeskAnswer DeskFault
  pub entries : List DeskEntry

abbrev pub IsMade : Client → Called → Type 0
IsMade client called = Does client called.call called.answer called.entries

abbrev pub entries_of_calls : List Called → List DeskEntry
entries_of_calls calls = flat_map (λ (called : Called). called.entries) calls
