-- Two objects whose fields are the same are read as the same configuration.
use Rattle.std.proofs.Common.{◌≡◌, List, [], ◌∷◌, ◌++◌, Bool, false, Option, Some, None, codes, refl}
use Rattle.std.specs.Prelude.{option_and_then, option_map, unwrap_or}
use Rattle.serde_json.specs.Data.{Data, null, boolean, number, string, array, object, Members}
use Rattle.serde_json.specs.Find.{get_member}
use Rattle.js_base.specs.Bytes.{Bytes}
use Rattle.js_json.specs.Fields.{field, unless_null, is_some_number, flag_in, number_in, text_in, time_in, is_number as is_numeral, is_given}
use Rattle.js_json.specs.Kinds.{is_something}
use Rattle.js_model.specs.Refusals.{Check, first_refusal}
use Rattle.js_model.specs.declared.consumer_config.ConsumerConfig.{ConsumerConfig}
use Rattle.consumer_config.specs.declared.rule.Rule.{Rule}
use Rattle.consumer_config.specs.declared.rule.Rule.TheVariants.{Flag, Text, Number, Count, Nothing, Group, Heartbeat, StartSequence, StartTime}
use Rattle.consumer_config.specs.Table.{Line, table}
use Rattle.consumer_config.specs.Reading.{standing, checks, start_checks, name_checks, config_in, config_unless, reading}

-- each field of the one is that of the other
abbrev pub Agrees : Members → Members → Type 0
Agrees a b = (name : Bytes) → field name a ≡ field name b

-- ---- what a field is asked

not_null : (P : Data → Bool) (value : Option Data) → P null ≡ false → unwrap_or (option_map P value) false ≡ unwrap_or (option_map P (option_and_then unless_null value)) false
not_null P None h = refl
not_null P (Some null) h = h
not_null P (Some (boolean b)) h = refl
not_null P (Some (number n)) h = refl
not_null P (Some (string text)) h = refl
not_null P (Some (array items)) h = refl
not_null P (Some (object _)) h = refl

given_by : (name : Bytes) (a : Members) → is_given name a ≡ unwrap_or (option_map is_something (field name a)) false
unfolding is_given
given_by name a = not_null is_something (get_member name a) refl

numeral_by : (name : Bytes) (a : Members) → is_numeral name a ≡ unwrap_or (option_map is_some_number (field name a)) false
unfolding is_numeral
numeral_by name a = not_null is_some_number (get_member name a) refl

-- ---- standings and refusals

stands : (rule : Rule) (name : Bytes) (a b : Members) → Agrees a b → standing rule name a ≡ standing rule name b
unfolding standing flag_in number_in text_in time_in
stands Flag name a b same = rw (same name) refl
stands (Text rule) name a b same = rw (same name) refl
stands (Number low high) name a b same = rw (same name) refl
stands (Count greatest) name a b same = rw (numeral_by name a, numeral_by name b, same name) refl
stands Nothing name a b same = rw (given_by name a, given_by name b, same name) refl
stands Group name a b same = rw (same name, same (codes "deliver_subject")) refl
stands Heartbeat name a b same = rw (same name, same (codes "deliver_subject")) refl
stands StartSequence name a b same = rw (same name, same (codes "deliver_policy")) refl
stands StartTime name a b same = rw (same name, same (codes "deliver_policy")) refl

checks_same : (rows : List Line) (a b : Members) → Agrees a b → checks a rows ≡ checks b rows
checks_same [] a b same = refl
checks_same (row ∷ rows) a b same = rw (stands row.rule row.name a b same, checks_same rows a b same) refl

starts_same : (a b : Members) → Agrees a b → start_checks a ≡ start_checks b
unfolding number_in text_in time_in
starts_same a b same = rw (same (codes "deliver_policy"), same (codes "opt_start_seq"), same (codes "opt_start_time")) refl

names_same : (name : Bytes) (a b : Members) → Agrees a b → name_checks name a ≡ name_checks name b
unfolding text_in
names_same name a b same = rw (same (codes "durable_name"), same (codes "name")) refl

config_same : (name : Bytes) (a b : Members) → Agrees a b → config_in name a ≡ config_in name b
unfolding config_in number_in text_in time_in
config_same name a b same =
    rw (
      same (codes "ack_policy"),
      same (codes "ack_wait"),
      same (codes "deliver_group"),
      same (codes "deliver_policy"),
      same (codes "deliver_subject"),
      same (codes "description"),
      same (codes "filter_subject"),
      same (codes "idle_heartbeat"),
      same (codes "max_ack_pending"),
      same (codes "max_deliver"),
      same (codes "max_waiting"),
      same (codes "opt_start_seq"),
      same (codes "opt_start_time"),
    ) refl

whole_same : (cs ds ss ts ns ms : List Check) (c d : ConsumerConfig) → cs ≡ ds → ss ≡ ts → ns ≡ ms → c ≡ d
    → config_unless (first_refusal (cs ++ (ss ++ ns))) c ≡ config_unless (first_refusal (ds ++ (ts ++ ms))) d
whole_same cs ds ss ts ns ms c d fields starts names is = rw (fields, starts, names, is) refl

pub reading_same : (name : Bytes) (a b : Members) → Agrees a b → reading name a ≡ reading name b
unfolding reading
reading_same name a b same =
    whole_same (checks a table) (checks b table) (start_checks a) (start_checks b) (name_checks name a) (name_checks name b) (config_in name a) (config_in name b)
    (checks_same table a b same) (starts_same a b same) (names_same name a b same) (config_same name a b same)
