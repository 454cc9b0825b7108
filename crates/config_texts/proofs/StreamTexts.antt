-- The texts of streams' configurations: a text is read as a configuration exactly if it is that configuration's.
use Rattle.std.proofs.Common.{◌≡◌, ◌^◌, ◌-◌, Bool, true, false, [], Some, None, Result, Ok, codes, IsTrue, IsUtf8, refl, sym, ap, subst, ◌∙◌, if◌then◌else◌, arith}
use Rattle.std.specs.Prelude.{option_and_then}
use Rattle.json.proofs.Printed.Utf8.{IsUtf8-are_ascii}
use Rattle.serde_json.specs.Data.{Members, object}
use Rattle.serde_json.specs.Written.{compact_text}
use Rattle.js_base.specs.Bytes.{Bytes, same}
use Rattle.js_base.proofs.Meeting.{same_is, same_self}
use Rattle.js_json.specs.Objects.{object_of}
use Rattle.js_model.proofs.Named.{some_is}
use Rattle.js_json.specs.declared.fault.JsonFault.{JsonFault}
use Rattle.js_model.specs.Configs.{is_stream_config}
use Rattle.js_model.specs.declared.stream_config.Retention.{Retention}
use Rattle.js_model.specs.declared.stream_config.Retention.TheVariants.{Limits, Interest, WorkQueue}
use Rattle.js_model.specs.declared.stream_config.Discard.{Discard}
use Rattle.js_model.specs.declared.stream_config.Discard.TheVariants.{Old, New as DiscardNew}
use Rattle.js_model.specs.declared.stream_config.StreamConfig.{StreamConfig}
use Rattle.js_model.proofs.ConfigParts.{config_parts}
use Rattle.stream_config.specs.Reading.{reading}
use Rattle.stream_config.specs.Printing.{retention_text, discard_text, printed as stream_printed}
use Rattle.stream_config.proofs.Limits.{limit_parts}
use Rattle.stream_config.proofs.Parts.{printable}
use Rattle.stream_config.proofs.Printed.{printed_read}
use Rattle.stream_config.proofs.Valid.{read_valid}
use Rattle.config_texts.specs.Laws.{IsStreamText, LawStreamText}
use Rattle.config_texts.specs.Reading.{allowed, name_in, stream_in, if_stream_text, stream_of}
use Rattle.config_texts.specs.Texts.{stream_text}
use Rattle.config_texts.proofs.Entries.{Each, KeysAreUtf8, ascend_from, keys_utf8, object_back, named, text_if, number_solid, limit_solid, each_utf8, then_some, allowed_back, name_is}
use Rattle.config_texts.proofs.Floats.{stream_entries, stream_members}
use Rattle.config_texts.proofs.Names.{name_back}
use Rattle.config_texts.proofs.Solid.{Solid, text_solid, count_solid, texts_solid}

-- ---- the entries read back

retention_utf8 : (policy : Retention) → IsUtf8 (retention_text policy)
retention_utf8 Limits = IsUtf8-are_ascii _ refl
retention_utf8 Interest = IsUtf8-are_ascii _ refl
retention_utf8 WorkQueue = IsUtf8-are_ascii _ refl

discard_utf8 : (policy : Discard) → IsUtf8 (discard_text policy)
discard_utf8 Old = IsUtf8-are_ascii _ refl
discard_utf8 DiscardNew = IsUtf8-are_ascii _ refl

solid : (c : StreamConfig) → IsTrue (is_stream_config c) → Each Solid (stream_entries c)
unfolding stream_entries
solid c is =
    let texts = printable c is in
    let parts = config_parts c is in
    let limits = limit_parts c is in (
      text_if c.description texts.description,
      (
        text_solid (discard_text c.discard) (discard_utf8 c.discard),
        (
          number_solid c.duplicate_window parts.window,
          (
            number_solid c.max_age limits.age,
            (
              limit_solid (2 ^ 62 - 1) c.max_bytes refl limits.bytes,
              (
                limit_solid 256 c.max_consumers refl parts.consumers,
                (
                  limit_solid (2 ^ 62 - 1) c.max_msg_size refl limits.size,
                  (
                    limit_solid (2 ^ 62 - 1) c.max_msgs refl limits.msgs,
                    (
                      limit_solid (2 ^ 62 - 1) c.max_msgs_per_subject refl limits.for_each,
                      (
                        text_solid c.name texts.name,
                        (
                          count_solid 1 (omega arith),
                          (
                            text_solid (retention_text c.retention) (retention_utf8 c.retention),
                            (
                              text_solid (codes "file") (IsUtf8-are_ascii _ refl),
                              (texts_solid c.subjects (each_utf8 c.subjects texts.subjects), tt),
                            ),
                          ),
                        ),
                      ),
                    ),
                  ),
                ),
              ),
            ),
          ),
        ),
      ),
    )

-- ---- a configuration is read from its text

keys : (c : StreamConfig) → KeysAreUtf8 (stream_entries c)
unfolding stream_entries
keys c = keys_utf8 (stream_entries c) refl

ascends : (c : StreamConfig) → ascend_from [] (stream_entries c) ≡ true
unfolding stream_entries
ascends c = refl

back : (c : StreamConfig) → IsTrue (is_stream_config c) → object_of (stream_text c) ≡ Ok (stream_printed c)
unfolding stream_text
back c is = ap (λ (ms : Members). object_of (compact_text (object ms))) (stream_members c) ∙ object_back (stream_entries c) (ascends c) (solid c is) (keys c) ∙ ap Ok (sym (stream_members c))

name_there : (c : StreamConfig) → IsTrue (is_stream_config c) → name_in (stream_printed c) ≡ Some c.name
unfolding stream_entries
name_there c is = ap name_in (stream_members c) ∙ named (stream_entries c) c.name refl refl (name_back c.name (config_parts c is).name)

is_in : (c : StreamConfig) → IsTrue (is_stream_config c) → reading c.name (stream_printed c) ≡ Ok c → stream_in (stream_printed c) ≡ Some c
unfolding stream_in
is_in c is read = rw (name_there c is, read) refl

own_text : (text : Bytes) (c : StreamConfig) → text ≡ stream_text c → if_stream_text text c ≡ Some c
own_text text c e = rw (e, same_self (stream_text c)) refl

from_text : (text : Bytes) (c : StreamConfig) → IsStreamText text c → stream_of text ≡ Some c
unfolding stream_of
from_text text c t =
    ap (λ (r : Result Members JsonFault). option_and_then (if_stream_text text) (option_and_then stream_in (allowed r))) (ap object_of t.spelled ∙ back c t.valid)
    ∙ ap (option_and_then (if_stream_text text)) (is_in c t.valid (printed_read c t.valid)) ∙ own_text text c t.spelled

-- ---- and what is read has this text

record Same (text : Bytes) (read c : StreamConfig) : Type 0 where
  config_is : read ≡ c
  spelled : text ≡ stream_text read

same_text : (text : Bytes) (read c : StreamConfig) → if_stream_text text read ≡ Some c → Same text read c
same_text text read c h = by (same (stream_text read) text) refl h
  where
    by : (is : Bool) → same (stream_text read) text ≡ is → (if is then Some read else None) ≡ Some c → Same text read c
    by true e h = record { config_is = some_is h; spelled = sym (same_is (stream_text read) text e) }
    by false e h = absurd (cc)

to_text : (text : Bytes) (c : StreamConfig) → stream_of text ≡ Some c → IsStreamText text c
unfolding stream_of stream_in
to_text text c h =
    let whole = then_some (if_stream_text text) (option_and_then stream_in (allowed (object_of text))) c h in
    let fields = then_some stream_in (allowed (object_of text)) whole.value whole.first_is in
    let name = then_some (λ (name : Bytes). allowed (reading name fields.value)) (name_in fields.value) whole.value fields.then_is in
    let read = allowed_back (reading name.value fields.value) whole.value name.then_is in
    let own = same_text text whole.value c whole.then_is in
    subst (IsStreamText text) own.config_is (record { valid = read_valid name.value fields.value whole.value (name_is fields.value name.value name.first_is) read; spelled = own.spelled })

pub law_stream_text : LawStreamText
law_stream_text text c = (to_text text c, from_text text c)
