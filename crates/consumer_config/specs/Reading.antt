-- What the fields of a JSON object are as the configuration of a consumer, by JetStream's consumer configuration: the first refusal, in ascending order
-- of the fields' names, then of what is missing and of names, and else the configuration, after the defaults.
use Rattle.std.specs.Prelude.{ℕ, ◌==◌, ◌&&◌, ◌||◌, ℤ, pos, negsuc, Bool, true, false, not, List, [], ◌∷◌, ◌++◌, map, codes, Option, Some, None, is_none, unwrap_or, Result, Ok, Err, if◌then◌else◌}
use Rattle.serde_json.specs.Data.{Members}
use Rattle.js_base.specs.Bytes.{Bytes, is_empty, same}
use Rattle.js_base.specs.declared.out.ApiError.{ApiError}
use Rattle.js_json.specs.Fields.{flag_in, number_in, text_in, time_in, is_number, is_given}
use Rattle.js_json.specs.declared.fault.JsonFault.{JsonFault}
use Rattle.js_model.specs.Refusals.{Check, first_refusal, invalid_value, not_supported, name_mismatch}
use Rattle.js_model.specs.declared.consumer_config.AckPolicy.{AckPolicy}
use Rattle.js_model.specs.declared.consumer_config.AckPolicy.TheVariants as acks
use Rattle.js_model.specs.declared.consumer_config.DeliverPolicy.{DeliverPolicy}
use Rattle.js_model.specs.declared.consumer_config.DeliverPolicy.TheVariants as delivers
use Rattle.js_model.specs.declared.consumer_config.ConsumerConfig.{ConsumerConfig}
use Rattle.consumer_config.specs.declared.rule.Rule.{Rule}
use Rattle.consumer_config.specs.declared.rule.Rule.TheVariants.{Flag, Text, Number, Count, Nothing, Group, Heartbeat, StartSequence, StartTime}
use Rattle.consumer_config.specs.declared.rule.Standing.{Standing}
use Rattle.consumer_config.specs.declared.rule.Standing.TheVariants.{Held, Invalid, LeftOut}
use Rattle.consumer_config.specs.Standings.{most, flag_standing, number_standing, count_standing, heartbeat_standing, text_standing, group_standing}
use Rattle.consumer_config.specs.Table.{Line, table}
use Rattle.consumer_config.specs.Refusals.{start_missing, durable_name_required}

-- ---- what the fields say

-- what a getter found: nothing, if the field is absent or wrong
abbrev pub found : {X : Type 0} → Result (Option X) JsonFault → Option X
found (Ok x) = x
found (Err fault) = None

-- a number that is not below 0
abbrev pub natural : ℤ → ℕ
natural (pos n) = n
natural (negsuc n) = 0

abbrev pub natural_or_0 : Option ℤ → ℕ
natural_or_0 None = 0
natural_or_0 (Some z) = natural z

-- the number in a field, and 0 if there is none or one below 0
abbrev pub natural_in : Bytes → Members → ℕ
natural_in name fields = natural_or_0 (found (number_in name fields))

-- the text in a field, and the empty one if there is none
abbrev pub word_in : Bytes → Members → Bytes
word_in name fields = unwrap_or (found (text_in name fields)) []

-- no text, or the empty one. A wrong field is no such case
abbrev pub is_unsaid : Result (Option Bytes) JsonFault → Bool
is_unsaid (Ok None) = true
is_unsaid (Ok (Some text)) = is_empty text
is_unsaid (Err fault) = false

-- no deliver subject is given
abbrev pub lacks_subject : Members → Bool
lacks_subject fields = is_unsaid (text_in (codes "deliver_subject") fields)

-- the consumer begins where the policy with this name says
abbrev pub starts : Bytes → Members → Bool
starts policy fields = same (word_in (codes "deliver_policy") fields) policy

-- ---- the standing of a field

-- an absent field is none that could be wrong, and a value of another type is invalid
abbrev pub judged : {X : Type 0} → (X → Standing) → Result (Option X) JsonFault → Standing
judged rule (Ok None) = Held
judged rule (Ok (Some x)) = rule x
judged rule (Err fault) = Invalid

-- a number of another kind is left out as one above the greatest is
abbrev pub counted : ℕ → Bool → Result (Option ℤ) JsonFault → Standing
counted greatest is_number (Ok None) = Held
counted greatest is_number (Ok (Some z)) = count_standing greatest z
counted greatest is_number (Err fault) = if is_number then LeftOut else Invalid

-- each moment may be held
abbrev pub time_standing : ℕ → Standing
time_standing at = Held

-- what a field is by its rule. Where a consumer starts is read past if its policy does not use it
unfoldable pub standing : Rule → Bytes → Members → Standing
standing Flag name fields = judged flag_standing (flag_in name fields)
standing (Text rule) name fields = judged (text_standing rule) (text_in name fields)
standing (Number low high) name fields = judged (number_standing low high) (number_in name fields)
standing (Count greatest) name fields = counted greatest (is_number name fields) (number_in name fields)
standing Nothing name fields = if is_given name fields then LeftOut else Held
standing Group name fields = judged (group_standing (lacks_subject fields)) (text_in name fields)
standing Heartbeat name fields = judged (heartbeat_standing (lacks_subject fields)) (number_in name fields)
standing StartSequence name fields =
    if starts (codes "by_start_sequence") fields then judged (number_standing (pos 0) (pos most)) (number_in name fields) else Held
standing StartTime name fields = if starts (codes "by_start_time") fields then judged time_standing (time_in name fields) else Held

-- ---- the refusals

abbrev pub is_refused : Standing → Bool
is_refused Held = false
is_refused Invalid = true
is_refused LeftOut = true

abbrev pub refusal_of : Bytes → Standing → ApiError
refusal_of name Held = not_supported name
refusal_of name Invalid = invalid_value name
refusal_of name LeftOut = not_supported name

abbrev pub judgement : Bytes → Standing → Check
judgement name is = (is_refused is, refusal_of name is)

-- whether a field is refused, and how
abbrev pub check : Members → Line → Check
check fields row = judgement row.name (standing row.rule row.name fields)

abbrev pub checks : Members → List Line → List Check
checks fields rows = map (check fields) rows

-- a policy without the field that it needs; a sequence of 0 is none
abbrev pub start_checks : Members → List Check
start_checks fields =
    (starts (codes "by_start_sequence") fields && (natural_in (codes "opt_start_seq") fields == 0), start_missing (codes "opt_start_seq"))
    ∷ (starts (codes "by_start_time") fields && is_none (found (time_in (codes "opt_start_time") fields)), start_missing (codes "opt_start_time"))
    ∷ []

-- another name than the consumer's. An empty one counts as absent
abbrev pub is_other : Bytes → Bytes → Bool
is_other name text = not (is_empty text) && not (same text name)

abbrev pub names_another : Bytes → Members → Bool
names_another name fields = is_other name (word_in (codes "durable_name") fields) || is_other name (word_in (codes "name") fields)

-- there is a durable name, and no name is another one
abbrev pub name_checks : Bytes → Members → List Check
name_checks name fields =
    (is_empty (word_in (codes "durable_name") fields), durable_name_required)
    ∷ (names_another name fields, name_mismatch)
    ∷ []

-- the first refusal: of the fields, then of what is missing, and then of the names
abbrev pub refusal_in : Bytes → Members → Option ApiError
refusal_in name fields = first_refusal (checks fields table ++ (start_checks fields ++ name_checks name fields))

-- ---- the values

-- 0 is the usual value
abbrev pub or_usual : ℕ → ℕ → ℕ
or_usual usual n = if n == 0 then usual else n

-- 30 seconds
abbrev pub usual_ack_wait : ℕ
usual_ack_wait = 30_000_000_000

-- how many deliveries may wait: none or 0 is 1,000, and a number below 0 is no limit of the consumer's own
abbrev pub pending_of : Option ℤ → Option ℕ
pending_of None = Some 1000
pending_of (Some (pos n)) = Some (or_usual 1000 n)
pending_of (Some (negsuc n)) = None

-- 0 is no limit
abbrev pub limit_of : ℕ → Option ℕ
limit_of n = if n == 0 then None else Some n

abbrev pub ack_policy_of : Bytes → AckPolicy
ack_policy_of text =
    if same text (codes "none") then acks.None else if same text (codes "all") then acks.All else acks.Explicit

-- where a consumer starts by time: a moment is there if nothing is missing
abbrev pub from_time : Option ℕ → DeliverPolicy
from_time None = delivers.All
from_time (Some at) = delivers.ByStartTime at

abbrev pub deliver_policy_of : Bytes → ℕ → Option ℕ → DeliverPolicy
deliver_policy_of text seq at =
    if same text (codes "last") then delivers.Last
    else if same text (codes "new") then delivers.New
    else if same text (codes "by_start_sequence") then delivers.ByStartSequence seq
    else if same text (codes "by_start_time") then from_time at
    else if same text (codes "last_per_subject") then delivers.LastPerSubject
    else delivers.All

abbrev pub deliver_policy_in : Members → DeliverPolicy
deliver_policy_in fields =
    deliver_policy_of (word_in (codes "deliver_policy") fields) (natural_in (codes "opt_start_seq") fields) (found (time_in (codes "opt_start_time") fields))

-- the configuration that the fields say, if none of them is refused
unfoldable pub config_in : Bytes → Members → ConsumerConfig
config_in name fields = record {
  ack_policy = ack_policy_of (word_in (codes "ack_policy") fields);
  ack_wait = or_usual usual_ack_wait (natural_in (codes "ack_wait") fields);
  deliver_group = word_in (codes "deliver_group") fields;
  deliver_policy = deliver_policy_in fields;
  deliver_subject = word_in (codes "deliver_subject") fields;
  description = word_in (codes "description") fields;
  filter_subject = word_in (codes "filter_subject") fields;
  idle_heartbeat = natural_in (codes "idle_heartbeat") fields;
  max_ack_pending = pending_of (found (number_in (codes "max_ack_pending") fields));
  max_deliver = limit_of (natural_in (codes "max_deliver") fields);
  max_waiting = or_usual 512 (natural_in (codes "max_waiting") fields);
  name = name;
}

abbrev pub config_unless : Option ApiError → ConsumerConfig → Result ConsumerConfig ApiError
config_unless None config = Ok config
config_unless (Some refusal) config = Err refusal

-- the configuration of the consumer with this name that the fields say, or the first refusal
unfoldable pub reading : Bytes → Members → Result ConsumerConfig ApiError
reading name fields = config_unless (refusal_in name fields) (config_in name fields)
