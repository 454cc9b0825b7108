-- The refusals of consumers' configurations beside those of fields, in the form of the JetStream API's errors; numbers and texts are this server's own.
use Rattle.std.specs.Prelude.{◌++◌, codes}
use Rattle.js_base.specs.Bytes.{Bytes}
use Rattle.js_base.specs.declared.out.ApiError.{ApiError}
use Rattle.js_model.specs.Refusals.{refusal}

-- the deliver policy needs this field
abbrev pub start_missing : Bytes → ApiError
start_missing field = refusal 400 20003 (codes "start field missing: " ++ field)

-- the consumer has no durable name
abbrev pub durable_name_required : ApiError
durable_name_required = refusal 400 20005 (codes "durable name required")
