-- Why a call of the router is refused, and what a desk answers then.
use Rattle.std.proofs.Common.{◌≡◌, ℕ, true, Option, Err, refl}
use Rattle.js_base.specs.Bytes.{Bytes}
use Rattle.js_model.specs.declared.route_fault.RouteFault.{RouteFault}
use Rattle.js_model.specs.declared.route_fault.RouteFault.TheVariants as refused
use Rattle.js_model.specs.Router as routes
use Rattle.js_model.specs.Routing.{fault_told}
use Rattle.js_api.specs.Calls.{MaySay, Says}
use Rattle.desk_places.specs.Faults.{desk_fault}
use Rattle.desk_hold.proofs.Refused.{open_kind, sub_kind}

pub record IsRefused (call : routes.RouteCall) (fault : RouteFault) : Type 0 where
  pub may : MaySay call (fault_told fault)
  pub says : Says (fault_told fault) (Err (desk_fault fault))

pub open_refused : (r new : routes.Router) (fault : RouteFault) → routes.IsRoute r routes.Open (fault_told fault) new → IsRefused routes.Open fault
open_refused r new (refused.NoSession latest) h = absurd (open_kind r new (routes.NoSession latest) h)
open_refused r new refused.TooManySubs h = absurd (open_kind r new routes.TooManySubs h)
open_refused r new refused.NoMemory h = record { may = refl; says = refl }
open_refused r new refused.Worn h = record { may = refl; says = refl }

pub sub_refused : (r new : routes.Router) (n : ℕ) (pattern : Bytes) (queue : Option Bytes) (sid : Bytes) (fault : RouteFault) → routes.is_open r n ≡ true
    → routes.IsRoute r (routes.Sub n pattern queue sid) (fault_told fault) new → IsRefused (routes.Sub n pattern queue sid) fault
sub_refused r new n pattern queue sid (refused.NoSession latest) is_open h = absurd (sub_kind r new n pattern queue sid (routes.NoSession latest) is_open h)
sub_refused r new n pattern queue sid refused.TooManySubs is_open h = record { may = refl; says = refl }
sub_refused r new n pattern queue sid refused.NoMemory is_open h = record { may = refl; says = refl }
sub_refused r new n pattern queue sid refused.Worn is_open h = absurd (sub_kind r new n pattern queue sid routes.Worn is_open h)
