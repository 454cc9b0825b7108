-- Texts of JSON are UTF-8.
use Rattle.std.proofs.Common.{◌≡◌, true, length, nat_le, refl, IsUtf8}
use Rattle.std.proofs.lemmas.Str.{is_utf8-from_IsUtf8}
use Rattle.js_base.specs.Bytes.{Bytes}
use Rattle.js_model.specs.Configs.{is_description}

-- a text that is short enough is a description
pub described : (text : Bytes) → IsUtf8 text → nat_le (length text) 4096 ≡ true → is_description text ≡ true
described text utf8 short = rw (short, is_utf8-from_IsUtf8 text utf8) refl
