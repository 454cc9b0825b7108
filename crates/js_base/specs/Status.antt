-- The text of a status block, as JetStream's status messages have it.
use Rattle.std.specs.Prelude.{ℕ, List, [], ◌∷◌, ◌++◌, codes, decimal}
use Rattle.std.specs.List.{flat_map}
use Rattle.js_base.specs.Bytes.{Bytes, crlf}

abbrev pub status_field : Bytes × ℕ → Bytes
status_field field = field.0 ++ codes ": " ++ decimal field.1 ++ crlf

abbrev pub status_text : Bytes → Bytes
status_text [] = []
status_text (byte ∷ more) = 32 ∷ byte ∷ more

-- the block with this code, this text and these fields
abbrev pub status : ℕ → Bytes → List (Bytes × ℕ) → Bytes
status code text fields = codes "NATS/1.0 " ++ decimal code ++ status_text text ++ crlf ++ flat_map status_field fields ++ crlf
