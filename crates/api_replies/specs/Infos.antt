-- A stream's information, by the JetStream API reference.
use Rattle.std.specs.Prelude.{ℕ, List, [], ◌∷◌, ◌++◌, map, codes, Option, Some, None}
use Rattle.serde_json.specs.Data.{Data, string, object, Items, Members, no_members}
use Rattle.serde_json.specs.View.{items_of}
use Rattle.js_base.specs.Bytes.{Bytes}
use Rattle.js_json.specs.Building.{with_all, object_with, count}
use Rattle.js_json.specs.Times.{time_text}
use Rattle.js_model.specs.declared.reply.StreamInfo.{StreamInfo}
use Rattle.stream_config.specs.Printing.{printed}

-- the moment, or the text for none
abbrev pub time_shown : Option ℕ → Bytes
time_shown None = codes "0001-01-01T00:00:00Z"
time_shown (Some at) = time_text at

-- the first and the last message
abbrev pub ends_of : StreamInfo → List (Bytes × Data)
ends_of info =
    (codes "first_seq", count info.first_seq)
    ∷ (codes "first_ts", string (time_shown info.first_at))
    ∷ (codes "last_seq", count info.last_seq)
    ∷ (codes "last_ts", string (time_shown info.last_at))
    ∷ []

abbrev pub state_of : StreamInfo → List (Bytes × Data)
state_of info =
    (codes "bytes", count info.bytes)
    ∷ (codes "consumer_count", count info.consumers)
    ∷ ends_of info ++ (codes "messages", count info.messages)
    ∷ []

unfoldable pub state_data : StreamInfo → Data
state_data info = object_with (state_of info)

abbrev pub info_of : StreamInfo → List (Bytes × Data)
info_of info =
    (codes "config", object (printed info.config))
    ∷ (codes "created", string (time_text info.made))
    ∷ (codes "state", state_data info)
    ∷ []

-- without its kind
unfoldable pub info_members : StreamInfo → Members
info_members info = with_all (info_of info) no_members

abbrev pub info_data : StreamInfo → Data
info_data info = object (info_members info)

-- in a list
abbrev pub infos : List StreamInfo → Items
infos list = items_of (map info_data list)
