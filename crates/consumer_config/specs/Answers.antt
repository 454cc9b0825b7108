-- What a call answered, and the reading that its definition gives: they are the same, unless memory ran out.
use Rattle.std.specs.Prelude.{◌≡◌, Option, Some, None, Result, Ok, Err}
use Rattle.js_base.specs.declared.out.ApiError.{ApiError}
use Rattle.js_model.specs.declared.consumer_config.ConsumerConfig.{ConsumerConfig}
use Rattle.consumer_config.specs.declared.fault.ConfigFault.{ConfigFault}
use Rattle.consumer_config.specs.declared.fault.ConfigFault.TheVariants.{Refused, NoMemory as OutOfMemory}

-- memory may run out whatever the fields are
abbrev pub ReadsConfig : Result ConsumerConfig ConfigFault → Result ConsumerConfig ApiError → Type 0
ReadsConfig (Ok config) reading = reading ≡ Ok config
ReadsConfig (Err (Refused refusal)) reading = reading ≡ Err refusal
ReadsConfig (Err OutOfMemory) reading = Unit {0}

-- nothing is refused, or this is
abbrev pub Passes : Result (Unit {0}) ConfigFault → Option ApiError → Type 0
Passes (Ok _) refusal = refusal ≡ None
Passes (Err (Refused error)) refusal = refusal ≡ Some error
Passes (Err OutOfMemory) refusal = Unit {0}
