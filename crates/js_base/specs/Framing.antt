-- The bytes of a server's frame, by the NATS client protocol.
use Rattle.std.specs.Prelude.{◌+◌, [], ◌∷◌, ◌++◌, codes, length, decimal, Option, None, Some}
use Rattle.js_base.specs.Bytes.{Bytes, crlf}
use Rattle.js_base.specs.declared.frame.Frame.{Frame}
use Rattle.js_base.specs.declared.frame.Frame.TheVariants.{Info, Msg, Ping, Pong, Ok as Fine, Err as Error}

-- a field and the space before it
abbrev pub spaced : Bytes → Bytes
spaced field = 32 ∷ field

abbrev pub optional : Option Bytes → Bytes
optional None = []
optional (Some reply) = spaced reply

-- `MSG subject sid [reply] size`, or with a header block `HMSG subject sid [reply] header-size total-size`, and the payload
abbrev pub message : Bytes → Bytes → Option Bytes → Bytes → Bytes → Bytes
message subject sid reply [] payload =
    codes "MSG" ++ spaced subject ++ spaced sid ++ optional reply ++ spaced (decimal (length payload)) ++ crlf ++ payload ++ crlf
message subject sid reply (h ∷ eaders) payload =
    codes "HMSG" ++ spaced subject ++ spaced sid ++ optional reply ++ spaced (decimal (length (h ∷ eaders)))
    ++ spaced (decimal (length (h ∷ eaders) + length payload)) ++ crlf ++ (h ∷ eaders) ++ payload ++ crlf

abbrev pub frame : Frame → Bytes
frame (Info client_id host port) =
    codes "INFO {\"client_id\":" ++ decimal client_id ++ codes ",\"headers\":true,\"host\":\"" ++ host
    ++ codes "\",\"jetstream\":true,\"max_payload\":1048576,\"port\":" ++ decimal port
    ++ codes ",\"proto\":1,\"server_id\":\"JSBLOCK\",\"server_name\":\"jsblock\",\"version\":\"2.10.0\"}" ++ crlf
frame (Msg subject sid reply headers payload) = message subject sid reply headers payload
frame Ping = codes "PING" ++ crlf
frame Pong = codes "PONG" ++ crlf
frame Fine = codes "+OK" ++ crlf
frame (Error text) = codes "-ERR '" ++ text ++ codes "'" ++ crlf
