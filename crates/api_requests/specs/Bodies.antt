-- What is read of the bodies of calls, by the JetStream API reference. A field that is null counts as absent, and one that no call asks for is
-- read past.
use Rattle.std.specs.Prelude.{ℕ, [], ◌∷◌, codes, Option, unwrap_or, Result, Ok, Err}
use Rattle.serde_json.specs.Data.{Members}
use Rattle.js_base.specs.Bytes.{Bytes}
use Rattle.js_base.specs.Names.{name_of}
use Rattle.js_base.specs.declared.name.NameFault.{NameFault}
use Rattle.js_base.specs.declared.out.ApiError.{ApiError}
use Rattle.js_json.specs.declared.fault.JsonFault.{JsonFault}
use Rattle.js_json.specs.Objects.{object_of}
use Rattle.js_model.specs.declared.stream_config.StreamConfig.{StreamConfig}
use Rattle.stream_config.specs.Reading.{reading}
use Rattle.js_model.specs.Refusals.{invalid_json, invalid_value}
use Rattle.api_requests.specs.Steps.{◌>>=◌}
use Rattle.api_requests.specs.Fields.{number_in, pattern_in}

-- an empty body is `{}`
abbrev pub or_braces : Bytes → Bytes
or_braces [] = codes "{}"
or_braces (byte ∷ more) = byte ∷ more

abbrev pub or_invalid_json : Result Members JsonFault → Result Members ApiError
or_invalid_json (Ok members) = Ok members
or_invalid_json (Err _) = Err invalid_json

-- the fields of a body that has to be an object, and so is not empty
unfoldable pub object_in : Bytes → Result Members ApiError
object_in body = or_invalid_json (object_of body)

-- the fields of a body
abbrev pub fields_of : Bytes → Result Members ApiError
fields_of body = object_in (or_braces body)

abbrev pub or_no_name : Result Bytes NameFault → Result Bytes ApiError
or_no_name (Ok name) = Ok name
or_no_name (Err _) = Err (invalid_value (codes "name"))

-- the name of a stream or a consumer, in its token
unfoldable pub token_name : Bytes → Result Bytes ApiError
token_name token = or_no_name (name_of token)

-- ---- what several calls ask

-- the stream, and the place from which its consumers are told, 0 if it is absent
unfoldable pub page_of : Bytes → Bytes → Result (Bytes × ℕ) ApiError
page_of token body = do
  fields ← fields_of body
  name ← token_name token
  offset ← number_in (codes "offset") fields
  Ok (name, unwrap_or offset 0)

-- the place from which a list is told, 0 if it is absent, and the pattern that the subjects of the listed streams meet
unfoldable pub listing_of : Bytes → Result (ℕ × Option Bytes) ApiError
listing_of body = do
  fields ← fields_of body
  offset ← number_in (codes "offset") fields
  subject ← pattern_in (codes "subject") fields
  Ok (unwrap_or offset 0, subject)

-- the name in the token, and the configuration that the body says for a stream of this name
unfoldable pub setup_of : Bytes → Bytes → Result (Bytes × StreamConfig) ApiError
setup_of token body = do
  fields ← fields_of body
  name ← token_name token
  config ← reading name fields
  Ok (name, config)
