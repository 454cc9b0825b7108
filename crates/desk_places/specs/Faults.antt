-- Why a call of a desk is refused, by why its router refused it.
use Rattle.std.specs.Prelude.{ℕ, ◌^◌, ◌-◌, Result, Ok, Err}
use Rattle.js_model.specs.declared.route_fault.RouteFault.{RouteFault}
use Rattle.js_model.specs.declared.route_fault.RouteFault.TheVariants as routes
use Rattle.js_api.specs.declared.fault.DeskFault.{DeskFault}
use Rattle.js_api.specs.declared.fault.DeskFault.TheVariants as faults

abbrev pub desk_fault : RouteFault → DeskFault
desk_fault (routes.NoSession latest) = faults.NoSession latest
desk_fault routes.TooManySubs = faults.TooManySubs
desk_fault routes.NoMemory = faults.NoMemory
desk_fault routes.Worn = faults.Worn (2 ^ 62 - 1)

-- what a call of a desk answers, by what its router answered
abbrev pub desk_answer : {X : Type 0} → Result X RouteFault → Result X DeskFault
desk_answer (Ok value) = Ok value
desk_answer (Err fault) = Err (desk_fault fault)

-- and what it answers to a message, if it is not told how many took it
abbrev pub sent : Result ℕ RouteFault → Result (Unit {0}) DeskFault
sent (Ok count) = Ok tt
sent (Err fault) = Err (desk_fault fault)
