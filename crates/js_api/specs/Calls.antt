-- Which entries each call of a desk makes, and with which answer.
use Rattle.std.specs.Prelude.{◌≡◌, ◌⊎◌, ℕ, ◌^◌, ◌-◌, Bool, true, false, List, [], ◌∷◌, Option, MatchBool, MatchOption, Result, Ok, Err, IsTrue}
use Rattle.js_base.specs.declared.out.Out.{Out}
use Rattle.js_model.specs.declared.event.What.TheVariants.{Tick as LetPass}
use Rattle.js_model.specs.declared.desk.Taken.{Taken}
use Rattle.js_model.specs.declared.desk.PlaceAt.{PlaceAt}
use Rattle.js_model.specs.Router as router
use Rattle.js_base.specs.ServerSubjects.{is_api, is_acknowledgement}
use Rattle.js_api.specs.declared.fault.DeskFault.{DeskFault}
use Rattle.js_api.specs.declared.fault.DeskFault.TheVariants as faults
use Rattle.js_api.specs.declared.outcome.Outcome.{Outcome}
use Rattle.js_api.specs.Answering.{DeskCall, Open, Options, Sub, Unsub, Publish, Tick, Settle, Collect, Close, DeskAnswer, Opened, Done, Took, Settled, Gave, Slow, answered_by}
use Rattle.js_api.specs.Clients.{Client}
use Rattle.js_api.specs.Entries.{DeskEntry, Routed, Turned, Resumed}
use Rattle.js_api.specs.Stages.{Then, Gives, IsWorn, Ending}
use Rattle.js_api.specs.Holding.{Holds}
use Rattle.js_api.specs.Publishing.{PublishesPlain}
use Rattle.js_api.specs.Api.{PublishesToApi, PublishesAck}

-- ---- one call of the router

-- the answer of the router is that of the call. It answers Worn if the last session has the last number
abbrev pub Says : router.RouteTold → Result DeskAnswer DeskFault → Type 0
Says router.Done result = result ≡ Ok Done
Says (router.Opened number) result = result ≡ Ok (Opened number)
Says (router.Taken count) result = ⊥
Says (router.Listens heard) result = ⊥
Says (router.Frames list more) result = result ≡ Ok (Gave list more)
Says (router.Slow length) result = result ≡ Ok (Slow length)
Says (router.NoSession latest) result = ⊥
Says router.TooManySubs result = result ≡ Err faults.TooManySubs
Says router.Worn result = result ≡ Err (faults.Worn (2 ^ 62 - 1))
Says router.NoMemory result = result ≡ Err faults.NoMemory

-- a call that may want one more subscription
abbrev pub may_subscribe : router.RouteCall → Bool
may_subscribe (router.Sub n pattern queue sid) = true
may_subscribe router.Open = false
may_subscribe (router.Close n) = false
may_subscribe (router.Options n echo headers) = false
may_subscribe (router.Unsub n sid max) = false
may_subscribe (router.Publish out from) = false
may_subscribe (router.Interest subject queue) = false
may_subscribe (router.Collect n max) = false

-- a call that wants the next session's number
abbrev pub may_number : router.RouteCall → Bool
may_number router.Open = true
may_number (router.Close n) = false
may_number (router.Options n echo headers) = false
may_number (router.Sub n pattern queue sid) = false
may_number (router.Unsub n sid max) = false
may_number (router.Publish out from) = false
may_number (router.Interest subject queue) = false
may_number (router.Collect n max) = false

-- the router may tell so of the call
abbrev pub MaySay : router.RouteCall → router.RouteTold → Type 0
MaySay call router.Done = Unit {0}
MaySay call (router.Opened number) = Unit {0}
MaySay call (router.Taken count) = Unit {0}
MaySay call (router.Listens heard) = Unit {0}
MaySay call (router.Frames list more) = Unit {0}
MaySay call (router.Slow length) = Unit {0}
MaySay call (router.NoSession latest) = Unit {0}
MaySay call router.TooManySubs = IsTrue (may_subscribe call)
MaySay call router.Worn = IsTrue (may_number call)
MaySay call router.NoMemory = IsTrue (router.may_want call)

-- the one entry of the call, or the router's turn cannot be entered
abbrev pub Routes : router.RouteCall → Result DeskAnswer DeskFault → List DeskEntry → Type 0
Routes call result entries =
    ((told : router.RouteTold) × (entries ≡ Routed call told ∷ []) × MaySay call told × Says told result)
    ⊎ ((number : ℕ) × (result ≡ Err (faults.Worn number)) × IsWorn number entries)

-- a call for an open session makes that; if none is open, it makes nothing
abbrev pub IfOpen : Client → (Result DeskAnswer DeskFault → List DeskEntry → Type 0) → Result DeskAnswer DeskFault → List DeskEntry → Type 0
IfOpen client IsDone result entries = MatchBool client.is_open (IsDone result entries) ((result ≡ Err (faults.NoSession client.session)) × (entries ≡ []))

-- ---- publishing

-- what becomes of the message is decided by its subject
abbrev pub Publishes : Client → Out → ℕ → Result Taken DeskFault → List DeskEntry → Type 0
Publishes client message now result entries =
    MatchBool (is_api message.to) (PublishesToApi client message now result entries)
    (MatchBool (is_acknowledgement message.to) (PublishesAck client message now result entries) (PublishesPlain client message now result entries))

-- ---- letting time pass

-- time passes at a place, and then a consumer is ready there or not
pub record PassesAt (now : ℕ) (at : PlaceAt) (result : Result Bool DeskFault) (entries : List DeskEntry) : Type 0 where
  pub outcome : Outcome
  pub holds : Holds at LetPass now outcome entries
  pub ends : Ending outcome.fault (Gives outcome.ready) result []

abbrev pub Passes : ℕ → Option PlaceAt → Result Bool DeskFault → List DeskEntry → Type 0
Passes now found result entries = MatchOption found (Gives false result entries) (λ at. PassesAt now at result entries)

-- the next used place after that of the last tick
abbrev pub Turns : Result (Option PlaceAt) DeskFault → List DeskEntry → Type 0
Turns (Ok found) entries = (after : ℕ) × (entries ≡ Turned after found ∷ [])
Turns (Err faults.NoMemory) entries = ⊥
Turns (Err faults.TooManySubs) entries = ⊥
Turns (Err (faults.Worn number)) entries = IsWorn number entries
Turns (Err (faults.NoSession latest)) entries = ⊥

-- what a tick makes besides at the place that it held: nothing, since no stream is a mirror of another
abbrev pub Feeds : ℕ → Option PlaceAt → Result (Unit {0}) DeskFault → List DeskEntry → Type 0
Feeds now found result entries = Gives tt result entries

abbrev pub Ticks : ℕ → Result (Unit {0}) DeskFault → List DeskEntry → Type 0
Ticks now result entries = Then Turns (λ found. Then (Passes now found) (λ ready. Feeds now found)) result entries

-- the place of the last hold
abbrev pub Resumes : Result (Option PlaceAt) DeskFault → List DeskEntry → Type 0
Resumes (Ok last) entries = entries ≡ Resumed last ∷ []
Resumes (Err fault) entries = ⊥

abbrev pub Settles : ℕ → Result Bool DeskFault → List DeskEntry → Type 0
Settles now result entries = Then Resumes (Passes now) result entries

-- ---- all calls

-- the call gives what the stages gave
pub record Answered {X : Type 0} (says : X → DeskAnswer) (stages : Result X DeskFault → List DeskEntry → Type 0) (result : Result DeskAnswer DeskFault) (entries : List DeskEntry) : Type 0 where
  pub given : Result X DeskFault
  pub result_is : result ≡ answered_by says given
  pub made : stages given entries

-- the entries that a call for this client makes with this answer
abbrev pub Does : Client → DeskCall → Result DeskAnswer DeskFault → List DeskEntry → Type 0
Does client Open result entries = Routes router.Open result entries
Does client (Options echo headers no_responders) result entries = IfOpen client (Routes (router.Options client.session echo headers)) result entries
Does client (Sub subject queue sid) result entries = IfOpen client (Routes (router.Sub client.session subject queue sid)) result entries
Does client (Unsub sid max) result entries = IfOpen client (Routes (router.Unsub client.session sid max)) result entries
Does client (Publish message now) result entries = IfOpen client (Answered Took (Publishes client message now)) result entries
Does client (Tick now) result entries = Answered (λ (u : Unit {0}). Done) (Ticks now) result entries
Does client (Settle now) result entries = Answered Settled (Settles now) result entries
Does client (Collect max) result entries = IfOpen client (Routes (router.Collect client.session max)) result entries
Does client Close result entries = IfOpen client (Routes (router.Close client.session)) result entries
