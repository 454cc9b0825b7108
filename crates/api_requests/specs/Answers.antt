-- What a call answered, and the reading that its definition gives: they are the same, unless memory ran out.
use Rattle.std.specs.Prelude.{◌≡◌, ◌≢◌, Option, Some, None, Result, Ok, Err}
use Rattle.js_base.specs.declared.out.ApiError.{ApiError}
use Rattle.api_requests.specs.declared.fault.ApiFault.{ApiFault}
use Rattle.api_requests.specs.declared.fault.ApiFault.TheVariants.{Refused, NoMemory}

-- what was read, or its refusal. Memory may run out whatever is read
abbrev pub Reads : {X : Type 0} → Result X ApiFault → Result X ApiError → Type 0
Reads (Ok x) reading = reading ≡ Ok x
Reads (Err (Refused told)) reading = reading ≡ Err told
Reads (Err NoMemory) reading = Unit {0}

-- the same if there may be nothing to read, for which no memory is needed
abbrev pub ReadsCall : {X : Type 0} → Result (Option X) ApiFault → Option (Result X ApiError) → Type 0
ReadsCall (Ok None) reading = reading ≡ None
ReadsCall (Ok (Some x)) reading = reading ≡ Some (Ok x)
ReadsCall (Err (Refused told)) reading = reading ≡ Some (Err told)
ReadsCall (Err NoMemory) reading = reading ≢ None
