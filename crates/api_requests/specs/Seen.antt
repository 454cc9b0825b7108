-- The fields of a body, and the tokens of a subject, as contracts see them.
use Rattle.std.specs.Prelude.{option_map, Result, Ok, Err}
use Rattle.serde_json.specs.Data.{Members}
use Rattle.js_json.specs.Members.{members}
use Rattle.js_json.specs.declared.fields.Fields.{Fields}
use Rattle.api_requests.specs.declared.fault.ApiFault.{ApiFault}
use Rattle.api_requests.specs.declared.consumer_call.ConsumerTokens.{ConsumerTokens}
use Rattle.api_requests.specs.ConsumerCalls.{Tokens}

abbrev pub seen : Result Fields ApiFault → Result Members ApiFault
seen (Ok fields) = Ok (members fields)
seen (Err fault) = Err fault

abbrev pub tokens_seen : ConsumerTokens → Tokens
tokens_seen t = record { stream = t.stream.now; consumer = t.consumer.now; filter = option_map (λ filter. filter.now) t.filter }
