-- What is read of the bodies of the calls that make a consumer, by the JetStream API reference. The fields are looked at in ascending order of their
-- names, and those of the configuration as `config` comes: first each by itself, then what the configuration lacks, and then whether names and the
-- filter are those of the subject.
use Rattle.std.specs.Prelude.{Bool, true, false, ◌&&◌, codes, Option, Some, None, Result, Ok, Err, if◌then◌else◌}
use Rattle.serde_json.specs.Data.{Members}
use Rattle.js_base.specs.Bytes.{Bytes, same}
use Rattle.js_base.specs.declared.out.ApiError.{ApiError}
use Rattle.js_json.specs.declared.fault.JsonFault.{JsonFault}
use Rattle.js_json.specs.Fields.{part_in}
use Rattle.js_model.specs.Refusals.{first_refusal, invalid_value, name_mismatch}
use Rattle.consumer_config.specs.Table.{table}
use Rattle.consumer_config.specs.Reading.{checks, reading}
use Rattle.api_requests.specs.declared.consumers.Settings.{Settings}
use Rattle.api_requests.specs.declared.consumers.Creation.{Creation}
use Rattle.api_requests.specs.Steps.{◌>>=◌}
use Rattle.api_requests.specs.Fields.{text_in, given_text_in}
use Rattle.api_requests.specs.Bodies.{object_in, token_name}
use Rattle.api_requests.specs.ConsumerCalls.{Tokens}

-- ---- names

-- the names in the tokens of a stream and of a consumer
unfoldable pub names_of : Tokens → Result (Bytes × Bytes) ApiError
names_of tokens = do
  stream ← token_name tokens.stream
  consumer ← token_name tokens.consumer
  Ok (stream, consumer)

-- ---- fields

-- whether the consumer has to be there: `update` says so, and `create`, or nothing, does not
abbrev pub update_by : Option Bytes → Result Bool ApiError
update_by None = Ok false
update_by (Some text) =
    if same text (codes "create") then Ok false
    else if same text (codes "update") then Ok true
    else Err (invalid_value (codes "action"))

unfoldable pub update_in : Members → Result Bool ApiError
update_in fields = do
  text ← text_in (codes "action") fields
  update_by text

-- an absent configuration is `{}`
abbrev pub config_told : Result (Option Members) JsonFault → Result Members ApiError
config_told (Ok None) = object_in (codes "{}")
config_told (Ok (Some members)) = Ok members
config_told (Err _) = Err (invalid_value (codes "config"))

abbrev pub unless : Option ApiError → Result (Unit {0}) ApiError
unless None = Ok tt
unless (Some refusal) = Err refusal

-- the fields of a configuration hold what they may hold
unfoldable pub checked : Members → Result (Unit {0}) ApiError
checked config = unless (first_refusal (checks config table))

-- the fields of the configuration
unfoldable pub config_in : Members → Result Members ApiError
config_in fields = do
  config ← config_told (part_in (codes "config") fields)
  _ ← checked config
  Ok config

-- what the body says of the consumer with this name
unfoldable pub settings_in : Bytes → Members → Result Settings ApiError
settings_in consumer fields = do
  update ← update_in fields
  members ← config_in fields
  stream ← given_text_in (codes "stream_name") fields
  config ← reading consumer members
  Ok (record { update = update; config = config; stream = stream })

-- ---- the whole

-- nothing is said, or just this
abbrev pub agrees : Option Bytes → Bytes → Bool
agrees None text = true
agrees (Some other) text = same other text

-- the stream in the body is that of the subject, and the filter in the subject is that of the configuration
abbrev pub agreeing : Bytes → Option Bytes → Settings → Result (Unit {0}) ApiError
agreeing stream filter settings =
    if agrees settings.stream stream && agrees filter settings.config.filter_subject then Ok tt else Err name_mismatch

-- what is made, and the names of its stream and of itself. An empty body is no object
unfoldable pub creation_of : Tokens → Bytes → Result Creation ApiError
creation_of tokens body = do
  fields ← object_in body
  names ← names_of tokens
  settings ← settings_in names.1 fields
  _ ← agreeing names.0 tokens.filter settings
  Ok (record { stream = names.0; consumer = names.1; config = settings.config; update = settings.update })
