-- What follows the step of a hold until its outputs are sent: who listens is read, and deliveries are made.
use Rattle.std.specs.Prelude.{◌≡◌, ◌≢◌, ◌⊎◌, ◌≤◌, ◌++◌, ℕ, Bool, true, false, List, [], length, sum_by, Option, None, Some, if◌then◌else◌}
use Rattle.js_base.specs.declared.out.Out.{Out}
use Rattle.js_model.specs.declared.stream.State.{State}
use Rattle.js_model.specs.declared.entry.PlaceEntry.{PlaceEntry}
use Rattle.js_model.specs.declared.desk.PlaceAt.{PlaceAt}
use Rattle.js_model.specs.PlaceStates.{PlaceIn, VolumeAt}
use Rattle.js_model.specs.Ready.{some_ready}
use Rattle.js_model.specs.Router.{RouteCall, RouteTold}
use Rattle.js_api.specs.declared.fault.DeskFault.{DeskFault}
use Rattle.js_api.specs.declared.fault.DeskFault.TheVariants as faults
use Rattle.js_api.specs.Entries.{Reading}
use Rattle.js_api.specs.Holding.{AreDeliveries, AreFirstReadings, AreReadings, IsLastGeneration, bytes_of, delivery_broke, listening_of, most_bytes, most_deliveries, push_consumers}
use Rattle.place_engine.specs.Stepping.{Image, Seen}
use Rattle.desk_hold.specs.Crashes.{Never, Outlasts}
use Rattle.desk_hold.specs.Deliveries.{HasRoom, Led}
use Rattle.desk_hold.specs.Ports.{AreHeard}
use Rattle.desk_hold.specs.declared.following.Following.{Following}
use Rattle.desk_hold.specs.declared.following.Following.TheVariants.{Heard, Unheard}

-- who listens was read for each push consumer; or the call ended before that, and nothing was delivered
abbrev pub AskedSo : Option DeskFault → State → List Reading → List PlaceEntry → Type 0
AskedSo None state readings entries = AreReadings (push_consumers state) readings
AskedSo (Some fault) state readings entries =
    AreReadings (push_consumers state) readings ⊎ (AreFirstReadings (push_consumers state) readings × (entries ≡ []))

-- without a fault, whether a consumer is ready is as it stands, and one is only if the hold was full
pub record IsLeft (ready : Bool) (now : ℕ) (readings : List Reading) (entries : List PlaceEntry) (new : PlaceIn) (outs : List Out) : Type 0 where
  pub ready_is : ready ≡ (if delivery_broke entries then false else some_ready new.state now (listening_of readings))
  pub full : ready ≡ true → (most_deliveries ≤ length entries) ⊎ (most_bytes ≤ sum_by bytes_of outs)

-- the fault is want of memory, or the last delivery found the numbers of the store's generations used up
abbrev pub IsFault : DeskFault → List PlaceEntry → VolumeAt → Type 0
IsFault faults.NoMemory entries volume = Unit {0}
IsFault faults.TooManySubs entries volume = ⊥
IsFault (faults.Worn number) entries volume = IsLastGeneration number volume × (entries ≢ [])
IsFault (faults.NoSession latest) entries volume = ⊥

abbrev pub LeftSo : Option DeskFault → Bool → ℕ → List Reading → List PlaceEntry → PlaceIn → List Out → Type 0
LeftSo None ready now readings entries new outs = IsLeft ready now readings entries new outs
LeftSo (Some fault) ready now readings entries new outs = IsFault fault entries new.volume

module _ {R : Type 0} (routes : R → RouteCall → RouteTold → R → Type 0) (worn : R → ℕ → R → Type 0) (seat : ℕ) (at : PlaceAt) (now : ℕ) where
  pub record IsHeard (ready : Bool) (fault : Option DeskFault) (readings : List Reading) (entries : List PlaceEntry) (old new : PlaceIn) (r s : R) (outs : List Out) : Type 0 where
    pub heard : AreHeard routes worn r readings s
    pub asked : AskedSo fault old.state readings entries
    pub few : length entries ≤ most_deliveries
    pub are : AreDeliveries seat at now (listening_of readings) fault entries
    pub left : LeftSo fault ready now readings entries new outs

  -- no turn of the router was left before who listens was told, and nothing was delivered
  pub record IsUnheard (number : ℕ) (readings : List Reading) (entries : List PlaceEntry) (old : PlaceIn) (r s : R) : Type 0 where
    pub mid : R
    pub heard : AreHeard routes worn r readings mid
    pub is_worn : worn mid number s
    pub first : AreFirstReadings (push_consumers old.state) readings
    pub none : entries ≡ []

  abbrev pub IsFollowed : Following → List Reading → List PlaceEntry → PlaceIn → PlaceIn → R → R → List Out → Type 0
  IsFollowed (Heard ready fault) readings entries old new r s outs = IsHeard ready fault readings entries old new r s outs
  IsFollowed (Unheard number) readings entries old new r s outs = IsUnheard number readings entries old r s

  -- it came to that, and the place and the port were led so
  pub record Follows (holds : Image → State → Type 0) (following : Following) (old new : Seen) (r s : R) (before after : List Out) : Type 0 where
    pub readings : List Reading
    pub entries : List PlaceEntry
    pub sent : List Out
    pub led : Led old.place entries sent new.place
    pub outlasts : Outlasts holds Never entries old new
    pub added : after ≡ before ++ sent
    pub room : HasRoom before entries
    pub followed : IsFollowed following readings entries old.place new.place r s after
