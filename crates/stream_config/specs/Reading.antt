-- What the fields of a JSON object are as the configuration of a stream, by JetStream's stream configuration: the first refusal, in ascending order of
-- the fields' names, and else the configuration, after the defaults.
use Rattle.std.specs.Prelude.{ℕ, ◌^◌, nat_lt, ◌==◌, ◌&&◌, ℤ, pos, negsuc, Bool, true, false, not, List, [], ◌∷◌, ◌++◌, map, codes, Option, Some, None, unwrap_or, Result, Ok, Err, if◌then◌else◌}
use Rattle.serde_json.specs.Data.{Members, no_members, member}
use Rattle.js_base.specs.Bytes.{Bytes, is_empty, same}
use Rattle.js_base.specs.declared.out.ApiError.{ApiError}
use Rattle.js_json.specs.Fields.{flag_in, number_in, text_in, texts_in, part_in, is_number, is_given}
use Rattle.js_json.specs.declared.fault.JsonFault.{JsonFault}
use Rattle.js_model.specs.Refusals.{Check, first_refusal, invalid_value, not_supported, name_mismatch}
use Rattle.js_model.specs.declared.stream_config.Retention.{Retention}
use Rattle.js_model.specs.declared.stream_config.Retention.TheVariants.{Limits, Interest, WorkQueue}
use Rattle.js_model.specs.declared.stream_config.Discard.{Discard}
use Rattle.js_model.specs.declared.stream_config.Discard.TheVariants.{Old, New as DiscardNew}
use Rattle.js_model.specs.declared.stream_config.StreamConfig.{StreamConfig}
use Rattle.stream_config.specs.declared.rule.Rule.{Rule}
use Rattle.stream_config.specs.declared.rule.Rule.TheVariants.{Flag, Text, Number, Count, NoParts, Nothing, Subjects}
use Rattle.stream_config.specs.declared.rule.Standing.{Standing}
use Rattle.stream_config.specs.declared.rule.Standing.TheVariants.{Held, Invalid, LeftOut}
use Rattle.stream_config.specs.Standings.{flag_standing, number_standing, count_standing, text_standing, subjects_standing}
use Rattle.stream_config.specs.Table.{Line, table}

-- ---- what the fields say

-- what a getter found: nothing, if the field is absent or wrong
abbrev pub found : {X : Type 0} → Result (Option X) JsonFault → Option X
found (Ok x) = x
found (Err fault) = None

-- a number that is not below 0
abbrev pub natural : ℤ → ℕ
natural (pos n) = n
natural (negsuc n) = 0

abbrev pub natural_or_0 : Option ℤ → ℕ
natural_or_0 None = 0
natural_or_0 (Some z) = natural z

-- the number in a field, and 0 if there is none or one below 0
abbrev pub natural_in : Bytes → Members → ℕ
natural_in name fields = natural_or_0 (found (number_in name fields))

-- the text in a field, and the empty one if there is none
abbrev pub word_in : Bytes → Members → Bytes
word_in name fields = unwrap_or (found (text_in name fields)) []

-- for how long messages stay: 0 also if the field is wrong
abbrev pub age_in : Members → ℕ
age_in fields = let age = natural_in (codes "max_age") fields in if nat_lt age (2 ^ 62) then age else 0

-- ---- the standing of a field

-- an absent field may be absent, and a value of another type is invalid
abbrev pub judged : {X : Type 0} → (X → Standing) → Result (Option X) JsonFault → Standing
judged rule (Ok None) = Held
judged rule (Ok (Some x)) = rule x
judged rule (Err fault) = Invalid

abbrev pub parts_standing : Members → Standing
parts_standing no_members = Held
parts_standing (member _ _ _) = LeftOut

-- a number of another kind is left out as one above the greatest is
abbrev pub counted : ℕ → Bool → Result (Option ℤ) JsonFault → Standing
counted greatest is_number (Ok None) = Held
counted greatest is_number (Ok (Some z)) = count_standing greatest z
counted greatest is_number (Err fault) = if is_number then LeftOut else Invalid

-- what a field is by its rule
unfoldable pub standing : Rule → Bytes → Members → Standing
standing Flag name fields = judged flag_standing (flag_in name fields)
standing (Text rule) name fields = judged (text_standing rule) (text_in name fields)
standing (Number rule) name fields = judged (number_standing rule (age_in fields)) (number_in name fields)
standing (Count greatest) name fields = counted greatest (is_number name fields) (number_in name fields)
standing NoParts name fields = judged parts_standing (part_in name fields)
standing Nothing name fields = if is_given name fields then LeftOut else Held
standing Subjects name fields = judged subjects_standing (texts_in name fields)

-- ---- the refusals

abbrev pub is_refused : Standing → Bool
is_refused Held = false
is_refused Invalid = true
is_refused LeftOut = true

abbrev pub refusal_of : Bytes → Standing → ApiError
refusal_of name Held = not_supported name
refusal_of name Invalid = invalid_value name
refusal_of name LeftOut = not_supported name

abbrev pub judgement : Bytes → Standing → Check
judgement name is = (is_refused is, refusal_of name is)

-- whether a field is refused, and how
abbrev pub check : Members → Line → Check
check fields row = judgement row.name (standing row.rule row.name fields)

abbrev pub checks : Members → List Line → List Check
checks fields rows = map (check fields) rows

abbrev pub is_other : Bytes → Option Bytes → Bool
is_other name None = false
is_other name (Some text) = not (same text name)

-- the name in the body is another one
abbrev pub names_another : Bytes → Members → Bool
names_another name fields = is_other name (found (text_in (codes "name") fields))

-- the first refusal: of the fields, and then of the name
abbrev pub refusal_in : Bytes → Members → Option ApiError
refusal_in name fields = first_refusal (checks fields table ++ (names_another name fields, name_mismatch) ∷ [])

-- ---- the values

-- 0 is no limit
abbrev pub limit_of : ℕ → Option ℕ
limit_of n = if n == 0 then None else Some n

abbrev pub limit_in : Bytes → Members → Option ℕ
limit_in name fields = limit_of (natural_in name fields)

abbrev pub retention_of : Bytes → Retention
retention_of text = if same text (codes "interest") then Interest else if same text (codes "workqueue") then WorkQueue else Limits

abbrev pub discard_of : Bytes → Discard
discard_of text = if same text (codes "new") then DiscardNew else Old

-- two minutes
abbrev pub usual_window : ℕ
usual_window = 120_000_000_000

-- 0 is two minutes, or the age if that is smaller and not 0
abbrev pub window_of : ℕ → ℕ → ℕ
window_of age window =
    if window == 0 then (if nat_lt 0 age && nat_lt age usual_window then age else usual_window) else window

-- the stream's name alone, if there are none
abbrev pub subjects_or : Bytes → Option (List Bytes) → List Bytes
subjects_or name None = name ∷ []
subjects_or name (Some subjects) = if is_empty subjects then name ∷ [] else subjects

-- the configuration that the fields say, if none of them is refused
unfoldable pub config_in : Bytes → Members → StreamConfig
config_in name fields = record {
  description = word_in (codes "description") fields;
  discard = discard_of (word_in (codes "discard") fields);
  duplicate_window = window_of (natural_in (codes "max_age") fields) (natural_in (codes "duplicate_window") fields);
  max_age = natural_in (codes "max_age") fields;
  max_bytes = limit_in (codes "max_bytes") fields;
  max_consumers = limit_in (codes "max_consumers") fields;
  max_msg_size = limit_in (codes "max_msg_size") fields;
  max_msgs = limit_in (codes "max_msgs") fields;
  max_msgs_per_subject = limit_in (codes "max_msgs_per_subject") fields;
  name = name;
  retention = retention_of (word_in (codes "retention") fields);
  subjects = subjects_or name (found (texts_in (codes "subjects") fields));
}

abbrev pub config_unless : Option ApiError → StreamConfig → Result StreamConfig ApiError
config_unless None config = Ok config
config_unless (Some refusal) config = Err refusal

-- the configuration of the stream with this name that the fields say, or the first refusal
unfoldable pub reading : Bytes → Members → Result StreamConfig ApiError
reading name fields = config_unless (refusal_in name fields) (config_in name fields)
