-- Each part of a stream's configuration can be printed.
use Rattle.std.proofs.Common.{◌≡◌, true, ◌&&◌, not, nat_lt, nat_le, length, IsUtf8, IsTrue, codes}
use Rattle.std.specs.List.{list_all}
use Rattle.std.specs.Str.{is_utf8}
use Rattle.std.proofs.lemmas.Bool.{and_parts}
use Rattle.std.proofs.lemmas.List.Sums.{AllPass-from_list_all}
use Rattle.std.proofs.lemmas.Str.{IsUtf8-from_is_utf8}
use Rattle.js_base.specs.Bytes.{Bytes, is_empty}
use Rattle.js_base.specs.Subjects.{tokens, meets, is_pattern, is_pattern_text, is_spelled, is_token_byte}
use Rattle.js_model.specs.Configs.{is_description, is_stream_subject, is_stream_config}
use Rattle.js_model.proofs.ConfigParts.{config_parts}
use Rattle.js_model.specs.declared.stream_config.StreamConfig.{StreamConfig}
use Rattle.stream_config.specs.Printing.{IsPrinted}
use Rattle.js_model.proofs.NameTexts.{name_utf8}

description_utf8 : (text : Bytes) → is_description text ≡ true → IsUtf8 text
description_utf8 text h = IsUtf8-from_is_utf8 text (and_parts (nat_le (length text) 4096) (is_utf8 text) h).1

pattern_utf8 : (text : Bytes) → is_spelled text ≡ true → IsUtf8 text
pattern_utf8 text h =
    let tokens_are = and_parts (nat_lt 0 (length text) && nat_le (length text) 1024 && list_all is_token_byte text && is_utf8 text) (list_all (λ token. not (is_empty token)) (tokens text)) h in
    IsUtf8-from_is_utf8 text (and_parts (nat_lt 0 (length text) && nat_le (length text) 1024 && list_all is_token_byte text) (is_utf8 text) tokens_are.0).1

subject_utf8 : (text : Bytes) → is_stream_subject text ≡ true → IsUtf8 text
subject_utf8 text h =
    let parts = and_parts (is_pattern_text text) (not (meets (tokens text) (tokens (codes "$JS.>")))) h in
    pattern_utf8 text (and_parts (is_spelled text) (is_pattern (tokens text)) parts.0).0

-- each configuration can be printed
pub printable : (c : StreamConfig) → IsTrue (is_stream_config c) → IsPrinted c
printable c h =
    let parts = config_parts c h in
    record {
      description = description_utf8 c.description parts.description;
      name = name_utf8 c.name parts.name;
      subjects = λ k d within. subject_utf8 _ (AllPass-from_list_all is_stream_subject c.subjects parts.subjects k d within);
    }
