-- A stored message as it is shown, by the JetStream API reference. A header block is shown if there is one.
use Rattle.std.specs.Prelude.{List, [], ◌∷◌, codes}
use Rattle.serde_json.specs.Data.{Data, string, object, Members, no_members, put}
use Rattle.base64.specs.Engines.{standard}
use Rattle.base64.specs.GeneralPurpose.{encode_of}
use Rattle.js_base.specs.Bytes.{Bytes}
use Rattle.js_json.specs.Building.{with_all, count}
use Rattle.js_json.specs.Times.{time_text}
use Rattle.js_model.specs.declared.stream.Message.{Message}

-- bytes, spelled in base64
abbrev pub base64_data : Bytes → Data
base64_data bytes = string (encode_of standard bytes)

-- bytes that are shown if there are any
abbrev pub base64_unless_empty : Bytes → Bytes → Members → Members
base64_unless_empty key [] members = members
base64_unless_empty key (byte ∷ more) members = put key (base64_data (byte ∷ more)) members

abbrev pub message_of : Message → List (Bytes × Data)
message_of m =
    (codes "data", base64_data m.payload)
    ∷ (codes "seq", count m.seq)
    ∷ (codes "subject", string m.subject)
    ∷ (codes "time", string (time_text m.at))
    ∷ []

unfoldable pub message_data : Message → Data
message_data m = object (with_all (message_of m) (base64_unless_empty (codes "hdrs") m.headers no_members))

-- a reply that shows it
abbrev pub stored_of : Message → List (Bytes × Data)
stored_of m = (codes "message", message_data m) ∷ []

unfoldable pub stored_members : Message → Members
stored_members m = with_all (stored_of m) no_members
