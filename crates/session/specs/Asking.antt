-- What the own desk call of an operation or a tick made of the desk, and which bytes were added for it.
use Rattle.std.specs.Prelude.{◌≡◌, ◌+◌, ◌≤◌, Bool, IsTrue, List, [], ◌++◌, length, Option, Some, None, Result, Ok, Err}
use Rattle.js_base.specs.Bytes.{Bytes}
use Rattle.js_base.specs.declared.out.Out.{Out}
use Rattle.js_json.specs.declared.fault.JsonFault.{JsonFault}
use Rattle.js_json.specs.declared.fault.JsonFault.TheVariants as json
use Rattle.js_api.specs.Entries.{DeskEntry}
use Rattle.js_api.specs.Clients.{Client}
use Rattle.js_api.specs.Publishing.{is_headers}
use Rattle.session.specs.Peer.{Request, Calls, CallsNothing, IsWrong, IsUnpublishable, IsRefused as Refuses, error_line, unpublishable_bytes}
use Rattle.session.specs.Calling.{Called, entries_of_calls}
use Rattle.session.specs.Leading.{Cuts}
use Rattle.session.specs.Stopping.{EndsInCall, cause_of}
use Rattle.session.specs.Talk.{AreAsked, all_called_bytes}
use Rattle.session.specs.declared.connect.ConnectOptions.{ConnectOptions}
use Rattle.session.specs.declared.ending.Refusal.TheVariants.{BadConnect}
use Rattle.session.specs.declared.stop.Stop.{Stop}
use Rattle.session.specs.declared.stop.Stop.TheVariants as stops

-- what was read of a CONNECT's text, and the options that it has, if it has any: they are the same, unless memory ran out
abbrev pub ReadsConnect : Result ConnectOptions Stop → Option ConnectOptions → Type 0
ReadsConnect (Ok options) found = found ≡ Some options
ReadsConnect (Err (stops.Refused refusal)) found = (refusal ≡ BadConnect) × (found ≡ None)
ReadsConnect (Err (stops.Slow size)) found = ⊥
ReadsConnect (Err stops.NoMemory) found = Unit {0}

-- why a session ends for a text that is no JSON object
abbrev pub stop_by : JsonFault → Stop
stop_by json.NotJson = stops.Refused BadConnect
stop_by json.NotObject = stops.Refused BadConnect
stop_by (json.BadField name) = stops.Refused BadConnect
stop_by json.NoMemory = stops.NoMemory

-- a message whose subjects were not looked at yet
pub record IsUnchecked (message : Out) : Type 0 where
  pub same_subject : message.subject ≡ message.to
  pub block : IsTrue (is_headers message.headers)
  pub small : length message.headers + length message.payload ≤ 1048576

-- what is said for a request that asks something of the desk
abbrev pub said_for : (verbose pedantic : Bool) → Request → List Called → Bytes
said_for verbose pedantic (Calls call) calls = all_called_bytes verbose calls
said_for verbose pedantic CallsNothing calls = []
said_for verbose pedantic (IsWrong text) calls = error_line text
said_for verbose pedantic IsUnpublishable calls = unpublishable_bytes verbose pedantic
said_for verbose pedantic (Refuses refusal) calls = []

-- the one call of the request, or none, was made, and what is said for it was added
pub record IsAsked {D : Type 0} (made : D → List DeskEntry → D → Type 0) (client : Client) (request : Request) (said : List Called → Bytes) (old new : D) (out_old out_new : Bytes) : Type 0 where
  pub calls : List Called
  pub asked : AreAsked client request calls
  pub led : made old (entries_of_calls calls) new
  pub written : out_new ≡ out_old ++ said calls

abbrev pub Asks : {D : Type 0} → (D → List DeskEntry → D → Type 0) → Client → Request → (List Called → Bytes) → D → D → Bytes → Bytes → Result (Unit {0}) Stop → Type 0
Asks made client request said old new out_old out_new (Ok _) = IsAsked made client request said old new out_old out_new
Asks made client request said old new out_old out_new (Err stop) =
    Cuts made (cause_of stop) old new out_old out_new (EndsInCall client request (cause_of stop))
