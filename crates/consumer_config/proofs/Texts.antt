-- Texts of JSON are UTF-8.
use Rattle.std.proofs.Common.{◌≡◌, true, false, not, ◌&&◌, length, nat_le, refl, IsUtf8}
use Rattle.std.specs.List.{list_all}
use Rattle.std.proofs.lemmas.Str.{is_utf8-from_IsUtf8}
use Rattle.js_base.specs.Bytes.{Bytes, is_empty}
use Rattle.js_model.specs.Configs.{is_description, is_queue_byte, is_queue_name}

-- a text that is short enough is a description
pub described : (text : Bytes) → IsUtf8 text → nat_le (length text) 4096 ≡ true → is_description text ≡ true
described text utf8 short = rw (short, is_utf8-from_IsUtf8 text utf8) refl

pub and_true : (b : _) → b && true ≡ b
and_true true = refl
and_true false = refl

-- a text that is short enough and has such bytes is a queue name
pub queue_name : (text : Bytes) → IsUtf8 text → is_queue_name text ≡ (not (is_empty text) && nat_le (length text) 1024 && list_all is_queue_byte text)
queue_name text utf8 = rw (is_utf8-from_IsUtf8 text utf8, and_true (not (is_empty text) && nat_le (length text) 1024 && list_all is_queue_byte text)) refl
