-- What bytes are as a JSON object, as `serde_json` reads them. `Members` are its fields in the order of their names; of a name that stands
-- there twice the last value counts.
use Rattle.std.specs.Prelude.{Option, Some, None, Result, Ok, Err, if◌then◌else◌}
use Rattle.std.specs.Str.{is_utf8}
use Rattle.serde_json.specs.Data.{Data, Members}
use Rattle.serde_json.specs.Read.{read}
use Rattle.serde_json.specs.Find.{as_object}
use Rattle.js_base.specs.Bytes.{Bytes}
use Rattle.js_json.specs.declared.fault.JsonFault.{JsonFault}
use Rattle.js_json.specs.declared.fault.JsonFault.TheVariants.{NotJson, NotObject}

-- the value that `serde_json` reads the bytes as: they are UTF-8, and arrays and objects nest at most 127 deep
abbrev pub value_of : Bytes → Option Data
value_of body = if is_utf8 body then read body else None

abbrev pub or_no_object : Option Members → Result Members JsonFault
or_no_object None = Err NotObject
or_no_object (Some members) = Ok members

abbrev pub or_no_json : Option Data → Result Members JsonFault
or_no_json None = Err NotJson
or_no_json (Some value) = or_no_object (as_object value)

-- the object that the bytes are, or else: they are no JSON, or another value
unfoldable pub object_of : Bytes → Result Members JsonFault
object_of body = or_no_json (value_of body)
