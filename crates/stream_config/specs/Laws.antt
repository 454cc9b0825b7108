-- The laws of configurations, by JetStream's stream configuration: which ones can be printed, that what is printed of one is read as the same, and
-- which one subjects alone ask for.
use Rattle.std.specs.Prelude.{◌≡◌, [], ◌∷◌, codes, IsTrue, Ok}
use Rattle.serde_json.specs.Data.{array, no_members, member}
use Rattle.js_base.specs.Bytes.{Bytes}
use Rattle.js_json.specs.Building.{texts}
use Rattle.js_model.specs.Configs.{is_stream_config, is_stream_subject}
use Rattle.js_model.specs.declared.stream_config.StreamConfig.{StreamConfig}
use Rattle.stream_config.specs.Defaults.{default_config}
use Rattle.stream_config.specs.Reading.{reading}
use Rattle.stream_config.specs.Printing.{printed, IsPrinted}

-- each configuration can be printed
abbrev pub LawPrintable : Type 0
LawPrintable = (c : StreamConfig) → IsTrue (is_stream_config c) → IsPrinted c

-- what is printed of one is read as the same
abbrev pub LawPrintedRead : Type 0
LawPrintedRead = (c : StreamConfig) → IsTrue (is_stream_config c) → reading c.name (printed c) ≡ Ok c

-- one subject alone asks for the default configuration
abbrev pub LawDefault : Type 0
LawDefault =
    (name subject : Bytes) → IsTrue (is_stream_subject subject)
    → reading name (member (codes "subjects") (array (texts (subject ∷ []))) no_members) ≡ Ok (default_config name subject)
