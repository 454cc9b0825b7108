-- The options of CONNECT, by the NATS client protocol: a JSON object, of which five fields count.
use Rattle.std.specs.Prelude.{Bool, true, false, codes, Option, Some, None, option_map, option_and_then, unwrap_or}
use Rattle.std.specs.Result.{result_ok}
use Rattle.serde_json.specs.Data.{Members}
use Rattle.js_base.specs.Bytes.{Bytes}
use Rattle.js_json.specs.Objects.{object_of}
use Rattle.js_json.specs.Fields.{flag_in}
use Rattle.session.specs.declared.connect.ConnectOptions.{ConnectOptions}

-- a field that is true or false, or its default if it is absent
abbrev pub flag_or : Bool → Bytes → Members → Option Bool
flag_or default name members = option_map (λ flag. unwrap_or flag default) (result_ok (flag_in name members))

-- options of which each one is true or false
abbrev pub options : Option Bool → Option Bool → Option Bool → Option Bool → Option Bool → Option ConnectOptions
options (Some verbose) (Some pedantic) (Some echo) (Some headers) (Some no_responders) =
    Some (record { verbose = verbose; pedantic = pedantic; echo = echo; headers = headers; no_responders = no_responders })
options None pedantic echo headers no_responders = None
options (Some verbose) None echo headers no_responders = None
options (Some verbose) (Some pedantic) None headers no_responders = None
options (Some verbose) (Some pedantic) (Some echo) None no_responders = None
options (Some verbose) (Some pedantic) (Some echo) (Some headers) None = None

-- the options that the fields name: operations are answered, a wrong subject of a publish is told, and a client hears itself, unless they say otherwise
abbrev pub options_in : Members → Option ConnectOptions
options_in members =
    options (flag_or true (codes "verbose") members) (flag_or true (codes "pedantic") members) (flag_or true (codes "echo") members)
    (flag_or false (codes "headers") members) (flag_or false (codes "no_responders") members)

-- the options of CONNECT's text; none if it is no JSON object, or one of the five fields is of another type
unfoldable pub connect_options : Bytes → Option ConnectOptions
connect_options text = option_and_then options_in (result_ok (object_of text))
