-- How the entries of a hold lead its place and its port.
use Rattle.std.specs.Prelude.{◌≡◌, ◌≢◌, ℕ, Bool, List, None, Some}
use Rattle.std.specs.List.{AllByRecursion}
use Rattle.js_model.specs.declared.stream.State.{State}
use Rattle.js_model.specs.declared.event.What.{What}
use Rattle.js_model.specs.declared.desk.PlaceAt.{PlaceAt}
use Rattle.js_model.specs.Events.{kept_incarnation}
use Rattle.js_model.specs.PlaceStates.{VolumeAt, PlaceIn}
use Rattle.js_model.specs.Router.{RouteCall, RouteTold}
use Rattle.model_laws.specs.Legal.{seat_of}
use Rattle.js_api.specs.declared.outcome.Outcome.{Outcome}
use Rattle.js_api.specs.Entries.{Hold, entries_in, DeskEntry, Routed, Looked, Turned, Resumed, Held, Stirred, Halted, Missed, Spent}
use Rattle.js_api.specs.Holding.{Holds}
use Rattle.js_api.specs.Leading.{Leads}
use Rattle.js_api.specs.Outputs.{outs_of}
use Rattle.js_api.specs.Rooms.{AreOutgrown}
use Rattle.js_api.specs.Worlds.{IsHeld, IsStirred}
use Rattle.place_engine.specs.Stepping.{Image, Seen}
use Rattle.desk_hold.specs.Crashes.{IsEarlyIn, Outlasts, made_by}
use Rattle.desk_hold.specs.Ports.{AreHeard, Sends}

-- a place, and the port of whoever holds it
pub record OnPlace (R : Type 0) : Type 0 where
  pub place : PlaceIn
  pub port : R

abbrev pub on : {R : Type 0} → PlaceIn → R → OnPlace R
on place port = record { place = place; port = port }

-- by this seat are those entries of the place's run that a hold made
abbrev pub IsBy : ℕ → DeskEntry → Type 0
IsBy seat (Routed call told) = Unit {0}
IsBy seat (Looked joined call told) = Unit {0}
IsBy seat (Turned after found) = Unit {0}
IsBy seat (Resumed last) = Unit {0}
IsBy seat (Held hold) = AllByRecursion (λ e. seat_of e ≡ seat) (entries_in hold)
IsBy seat (Stirred at before after failed) = Unit {0}
IsBy seat (Halted at state) = Unit {0}
IsBy seat (Missed at kept) = Unit {0}
IsBy seat (Spent number) = Unit {0}

abbrev pub AreBy : ℕ → List DeskEntry → Type 0
AreBy seat entries = AllByRecursion (IsBy seat) entries

module _ {R : Type 0} (routes : R → RouteCall → RouteTold → R → Type 0) (worn : R → ℕ → R → Type 0) (at : PlaceAt) where
  -- who listens was told first, and then all that the hold sends was sent
  pub record IsHeldOn (hold : Hold) (old new : OnPlace R) : Type 0 where
    pub at_is : hold.at ≡ at
    pub held : IsHeld hold old.place new.place
    pub told : R
    pub heard : AreHeard routes worn old.port hold.readings told
    pub sent : Sends routes worn told (outs_of hold.before (entries_in hold)) hold.sending new.port

  pub record IsStirredOn (there : PlaceAt) (before after : VolumeAt) (failed : Bool) (old new : OnPlace R) : Type 0 where
    pub at_is : there ≡ at
    pub stirred : IsStirred before after failed old.place new.place
    pub port : new.port ≡ old.port

  pub record IsHaltedOn (there : PlaceAt) (state : State) (old new : OnPlace R) : Type 0 where
    pub at_is : there ≡ at
    pub count : ℕ
    pub stopped : old.place.stopped ≡ Some count
    pub state_is : old.place.state ≡ state
    pub same : new ≡ old

  pub record IsMissedOn (there : PlaceAt) (kept : ℕ) (old new : OnPlace R) : Type 0 where
    pub at_is : there ≡ at
    pub going : old.place.stopped ≡ None
    pub kept_is : kept_incarnation old.place.state ≡ kept
    pub other : kept ≢ at.incarnation
    pub same : new ≡ old

  -- one entry. A hold enters no turn of its place, so that none is spent
  abbrev pub PlaceStep : OnPlace R → DeskEntry → OnPlace R → Type 0
  PlaceStep old (Routed call told) new = ⊥
  PlaceStep old (Looked joined call told) new = ⊥
  PlaceStep old (Turned after found) new = ⊥
  PlaceStep old (Resumed last) new = ⊥
  PlaceStep old (Held hold) new = IsHeldOn hold old new
  PlaceStep old (Stirred there before after failed) new = IsStirredOn there before after failed old new
  PlaceStep old (Halted there state) new = IsHaltedOn there state old new
  PlaceStep old (Missed there kept) new = IsMissedOn there kept old new
  PlaceStep old (Spent number) new = ⊥

  -- A hold of what was asked there came to that, and its entries led from the one place and port to the other. This seat made each of the place's run.
  -- A crash leaves a beginning of what was made of that run, with all that was confirmed by then. `outgrows` is when more would stand at a place than a log can
  -- begin with.
  pub record HoldsOn (in_image : Image → State → Type 0) (outgrows : State → What → Type 0) (seat : ℕ) (what : What) (now : ℕ) (outcome : Outcome) (old new : Seen) (r s : R) : Type 0 where
    pub entries : List DeskEntry
    pub holds : Holds at what now outcome entries
    pub led : Leads PlaceStep (on old.place r) entries (on new.place s)
    pub by : AreBy seat entries
    pub outgrown : AreOutgrown outgrows entries
    pub outlasts : Outlasts in_image (IsEarlyIn entries) (made_by entries) old new
