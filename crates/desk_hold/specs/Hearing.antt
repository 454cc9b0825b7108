-- Who listens for the push consumers of a place, as a hold reads it by its port: by JetStream's deliver subjects and deliver groups.
use Rattle.std.specs.Prelude.{◌≡◌, ℕ, List, Result, Ok, Err}
use Rattle.js_base.specs.Bytes.{Bytes}
use Rattle.js_model.specs.declared.stream.State.{State}
use Rattle.js_model.specs.Router.{RouteCall, RouteTold}
use Rattle.js_api.specs.Entries.{Reading}
use Rattle.js_api.specs.Holding.{AreFirstReadings, AreReadings, listening_of, push_consumers}
use Rattle.desk_hold.specs.Ports.{AreHeard}
use Rattle.desk_hold.specs.declared.port.PortFault.{PortFault}
use Rattle.desk_hold.specs.declared.port.PortFault.TheVariants as faults

module _ {R : Type 0} (routes : R → RouteCall → RouteTold → R → Type 0) (worn : R → ℕ → R → Type 0) where
  -- it was read for each push consumer; or for the first ones, until memory ran out, or until no turn of the router was left
  abbrev pub Reads : Result (List Bytes) PortFault → State → List Reading → R → R → Type 0
  Reads (Ok listening) state readings old new =
      AreReadings (push_consumers state) readings × (listening ≡ listening_of readings) × AreHeard routes worn old readings new
  Reads (Err faults.NoMemory) state readings old new = AreFirstReadings (push_consumers state) readings × AreHeard routes worn old readings new
  Reads (Err (faults.Worn number)) state readings old new =
      (mid : R) × AreFirstReadings (push_consumers state) readings × AreHeard routes worn old readings mid × worn mid number new

  pub record Hears (result : Result (List Bytes) PortFault) (state : State) (old new : R) : Type 0 where
    pub readings : List Reading
    pub reads : Reads result state readings old new
