-- Which subjects are calls of the API, by the JetStream API reference: `$JS.API.`, the words of the call, and for a call on one stream a token
-- for its name. A subject with more tokens is none.
use Rattle.std.specs.Prelude.{nat_eq, not, ◌&&◌, drop, length, Option, Some, None, option_map, if◌then◌else◌}
use Rattle.std.specs.List.{starts_with}
use Rattle.std.specs.Option.{option_or}
use Rattle.js_base.specs.Bytes.{Bytes, same, has}
use Rattle.api_requests.specs.declared.call.GeneralCall.{GeneralCall}
use Rattle.api_requests.specs.declared.call.GeneralCall.TheVariants as general
use Rattle.api_requests.specs.declared.call.StreamCall.{StreamCall}
use Rattle.api_requests.specs.declared.call.StreamCall.TheVariants as stream
use Rattle.api_requests.specs.Words.{general_words, stream_words}

-- a call on no stream of its own
abbrev pub general_call : Bytes → Option GeneralCall
general_call subject =
    if same subject (general_words general.AccountInfo) then Some general.AccountInfo
    else if same subject (general_words general.StreamNames) then Some general.StreamNames
    else if same subject (general_words general.StreamList) then Some general.StreamList
    else None

-- the one token, maybe an empty one, that stands behind these words
abbrev pub token_behind : Bytes → Bytes → Option Bytes
token_behind words subject =
    if starts_with nat_eq subject words && not (has (drop (length words) subject) 46) then Some (drop (length words) subject) else None

-- this call, and the token that stands for the stream
abbrev pub called : StreamCall → Bytes → Option (StreamCall × Bytes)
called call subject = option_map (λ token. (call, token)) (token_behind (stream_words call) subject)

-- a call on a stream as a whole
abbrev pub setup_call : Bytes → Option (StreamCall × Bytes)
setup_call subject =
    option_or (called stream.Create subject)
    (option_or (called stream.Update subject)
    (option_or (called stream.Info subject)
    (called stream.Delete subject)))

-- a call on the messages of a stream
abbrev pub message_call : Bytes → Option (StreamCall × Bytes)
message_call subject =
    option_or (called stream.Purge subject)
    (option_or (called stream.MsgGet subject)
    (called stream.MsgDelete subject))

-- a list of the consumers of a stream, or a creation that names none
abbrev pub consumers_call : Bytes → Option (StreamCall × Bytes)
consumers_call subject =
    option_or (called stream.ConsumerNames subject)
    (option_or (called stream.ConsumerList subject)
    (called stream.ConsumerCreate subject))

-- a call on one stream
abbrev pub stream_call : Bytes → Option (StreamCall × Bytes)
stream_call subject = option_or (setup_call subject) (option_or (message_call subject) (consumers_call subject))
