-- What is printed of a configuration is read as the same.
use Rattle.std.proofs.Common.{◌≡◌, ℕ, zero, suc, ◌^◌, ◌<◌, ℤ, pos, negsuc, [], ◌∷◌, Bool, true, false, ◌&&◌, ◌||◌, ◌==◌, not, nat_lt, nat_le, drop, IsTrue, Option, Some, None, Result, Ok, codes, refl, sym, ap, ◌∙◌, if◌then◌else◌, is_none, arith}
use Rattle.std.specs.Prelude.{unwrap_or}
use Rattle.std.proofs.lemmas.Bool.{and_parts, true≢false}
use Rattle.std.proofs.lemmas.Bool.Decides.{nat_tests}
use Rattle.serde_json.specs.Data.{Members}
use Rattle.serde_json.specs.Find.{as_str}
use Rattle.js_base.specs.Bytes.{Bytes, is_empty, same}
use Rattle.js_base.specs.Subjects.{is_pattern_text}
use Rattle.js_base.proofs.Meeting.{same_self}
use Rattle.js_json.specs.Building.{limit}
use Rattle.js_json.specs.Kinds.{as_whole, as_time}
use Rattle.js_json.specs.Fields.{taken, unless_null, flag_in, number_in, text_in, time_in, is_number as is_numeral, is_given}
use Rattle.js_json.specs.declared.fault.JsonFault.{JsonFault}
use Rattle.js_json.proofs.Written.{written_is_read}
use Rattle.js_model.specs.Configs.{is_limit, is_number, is_description, is_start, is_queue_name, is_deliver_subject, is_consumer_config}
use Rattle.js_model.specs.Refusals.{first_refusal}
use Rattle.js_model.specs.declared.consumer_config.AckPolicy.{AckPolicy}
use Rattle.js_model.specs.declared.consumer_config.AckPolicy.TheVariants as acks
use Rattle.js_model.specs.declared.consumer_config.DeliverPolicy.{DeliverPolicy}
use Rattle.js_model.specs.declared.consumer_config.DeliverPolicy.TheVariants as delivers
use Rattle.js_model.specs.declared.consumer_config.ConsumerConfig.{ConsumerConfig}
use Rattle.js_model.proofs.NameTexts.{name_parts}
use Rattle.consumer_config.specs.declared.rule.Standing.TheVariants.{Held}
use Rattle.consumer_config.specs.declared.rule.TextRule.TheVariants as texts
use Rattle.consumer_config.specs.Standings.{most, number_standing, text_standing, group_standing, heartbeat_standing}
use Rattle.consumer_config.specs.Table.{table}
use Rattle.consumer_config.specs.Reading.{found, is_unsaid, judged, time_standing, is_refused, natural_or_0, or_usual, usual_ack_wait, pending_of, limit_of, ack_policy_of, deliver_policy_of, start_checks, name_checks, reading, standing, config_in}
use Rattle.consumer_config.specs.Printing.{ack_policy_text, deliver_policy_text, text_shown, number_shown, sequence_shown, time_shown, entries, object_with, printed}
use Rattle.consumer_config.proofs.Fields.{suc_not_0}
use Rattle.consumer_config.proofs.Refusing.{read_whole}
use Rattle.consumer_config.proofs.Passing.{Passing, none_refused, passing_from}
use Rattle.consumer_config.proofs.Parts.{ConfigParts, config_parts}
use Rattle.consumer_config.proofs.Agreeing.{reading_same}
use Rattle.consumer_config.proofs.Shown.{or_null, with_nulls, fields_same}

-- ---- texts

abbrev text_read : Bytes → Bytes → Result (Option Bytes) JsonFault
text_read name text = taken as_str name (unless_null (or_null (text_shown text)))

text_back : (name text : Bytes) → unwrap_or (found (text_read name text)) [] ≡ text
text_back name [] = refl
text_back name (byte ∷ more) = refl

unsaid_is : (name text : Bytes) → is_unsaid (text_read name text) ≡ is_empty text
unsaid_is name [] = refl
unsaid_is name (byte ∷ more) = refl

described : (name text : Bytes) → is_description text ≡ true → is_refused (judged (text_standing texts.Description) (text_read name text)) ≡ false
described name [] h = refl
described name (byte ∷ more) h = rw h refl

filtered : (name text : Bytes) → (is_empty text || is_pattern_text text) ≡ true → is_refused (judged (text_standing texts.Filter) (text_read name text)) ≡ false
filtered name [] h = refl
filtered name (byte ∷ more) h = rw h refl

directed : (name text : Bytes) → (is_empty text || is_deliver_subject text) ≡ true → is_refused (judged (text_standing texts.DeliverSubject) (text_read name text)) ≡ false
directed name [] h = refl
directed name (byte ∷ more) h = rw h refl

grouped : (name text other subject : Bytes) → (is_empty text || is_queue_name text && not (is_empty subject)) ≡ true
    → is_refused (judged (group_standing (is_unsaid (text_read other subject))) (text_read name text)) ≡ false
grouped name [] other subject h = refl
grouped name (byte ∷ more) other subject h = rw (unsaid_is other subject, h) refl

-- ---- numbers

abbrev number_read : Bytes → ℕ → Result (Option ℤ) JsonFault
number_read name n = taken as_whole name (unless_null (or_null (number_shown n)))

number_back : (name : Bytes) (n : ℕ) → natural_or_0 (found (number_read name n)) ≡ n
number_back name zero = refl
number_back name (suc n) = rw (suc_not_0 n) refl

from_0 : (n : ℕ) → nat_le 0 n ≡ true
from_0 n = grind (arith, nat_tests)

below : (n : ℕ) → is_number n ≡ true → nat_le n most ≡ true
below n h = grind (arith, nat_tests)

not_0 : (n : ℕ) → nat_lt 0 n ≡ true → (n == 0) ≡ false
not_0 n h = grind (arith, nat_tests)

usual_back : (usual n : ℕ) → nat_lt 0 n ≡ true → or_usual usual n ≡ n
usual_back usual n h = rw (not_0 n h) refl

counted : (high n : ℕ) → nat_le n high ≡ true → is_refused (number_standing (pos 0) (pos high) (pos n)) ≡ false
counted high n h = rw (from_0 n, h) refl

-- above 0 it is given if the rule between the two is kept
needed : (n : ℕ) (lacks : Bool) → ((suc n == 0) || not lacks) ≡ true → lacks ≡ false
needed n true h = absurd (true≢false (sym h ∙ ap (λ (b : Bool). b || false) (suc_not_0 n)))
needed n false h = refl

beats_at : (n : ℕ) (lacks : Bool) → is_number (suc n) ≡ true → lacks ≡ false → is_refused (heartbeat_standing lacks (pos (suc n))) ≡ false
beats_at n lacks number given = rw (given, from_0 (suc n), below (suc n) number) refl

beats : (name other subject : Bytes) (n : ℕ) → is_number n ≡ true → ((n == 0) || not (is_empty subject)) ≡ true
    → is_refused (judged (heartbeat_standing (is_unsaid (text_read other subject))) (number_read name n)) ≡ false
beats name other subject zero number needs = refl
beats name other subject (suc n) number needs = rw (suc_not_0 n) (beats_at n (is_unsaid (text_read other subject)) number (unsaid_is other subject ∙ needed n (is_empty subject) needs))

abbrev limit_read : Bytes → Option ℕ → Result (Option ℤ) JsonFault
limit_read name most = taken as_whole name (unless_null (limit most))

limited : (name : Bytes) (high : ℕ) (most : Option ℕ) → is_limit high most ≡ true → is_refused (judged (number_standing (negsuc 0) (pos high)) (limit_read name most)) ≡ false
limited name high None h = refl
limited name high (Some n) h = rw ((and_parts (nat_lt 0 n) (nat_le n high) h).1) refl

limit_back : (name : Bytes) (high : ℕ) (most : Option ℕ) → is_limit high most ≡ true → limit_of (natural_or_0 (found (limit_read name most))) ≡ most
limit_back name high None h = refl
limit_back name high (Some n) h = rw (not_0 n (and_parts (nat_lt 0 n) (nat_le n high) h).0) refl

pending_back : (name : Bytes) (most : Option ℕ) → is_limit 65536 most ≡ true → pending_of (found (limit_read name most)) ≡ most
pending_back name None h = refl
pending_back name (Some n) h = ap Some (usual_back 1000 n (and_parts (nat_lt 0 n) (nat_le n 65536) h).0)

-- ---- policies

ack_stands : (policy : AckPolicy) → is_refused (text_standing texts.AckPolicy (ack_policy_text policy)) ≡ false
ack_stands acks.None = refl
ack_stands acks.All = refl
ack_stands acks.Explicit = refl

ack_back : (policy : AckPolicy) → ack_policy_of (ack_policy_text policy) ≡ policy
ack_back acks.None = refl
ack_back acks.All = refl
ack_back acks.Explicit = refl

policy_stands : (policy : DeliverPolicy) → is_refused (text_standing texts.DeliverPolicy (deliver_policy_text policy)) ≡ false
policy_stands delivers.All = refl
policy_stands delivers.Last = refl
policy_stands delivers.New = refl
policy_stands (delivers.ByStartSequence seq) = refl
policy_stands (delivers.ByStartTime at) = refl
policy_stands delivers.LastPerSubject = refl

abbrev sequence_read : DeliverPolicy → Result (Option ℤ) JsonFault
sequence_read policy = taken as_whole (codes "opt_start_seq") (unless_null (or_null (sequence_shown policy)))

abbrev time_read : DeliverPolicy → Result (Option ℕ) JsonFault
time_read policy = taken as_time (codes "opt_start_time") (unless_null (or_null (time_shown policy)))

time_again : (at : ℕ) → is_number at ≡ true → time_read (delivers.ByStartTime at) ≡ Ok (Some at)
time_again at h = let low : at < 2 ^ 62 = grind (arith, nat_tests) in rw (written_is_read at low) refl

sequence_stands : (policy : DeliverPolicy) → is_start policy ≡ true
    → is_refused (if same (deliver_policy_text policy) (codes "by_start_sequence") then judged (number_standing (pos 0) (pos most)) (sequence_read policy) else Held) ≡ false
sequence_stands delivers.All h = refl
sequence_stands delivers.Last h = refl
sequence_stands delivers.New h = refl
sequence_stands (delivers.ByStartSequence seq) h = counted most seq (below seq (and_parts (nat_lt 0 seq) (is_number seq) h).1)
sequence_stands (delivers.ByStartTime at) h = refl
sequence_stands delivers.LastPerSubject h = refl

time_stands : (policy : DeliverPolicy) → is_start policy ≡ true
    → is_refused (if same (deliver_policy_text policy) (codes "by_start_time") then judged time_standing (time_read policy) else Held) ≡ false
time_stands delivers.All h = refl
time_stands delivers.Last h = refl
time_stands delivers.New h = refl
time_stands (delivers.ByStartSequence seq) h = refl
time_stands (delivers.ByStartTime at) h = rw (time_again at h) refl
time_stands delivers.LastPerSubject h = refl

-- the fields that are printed for a policy say what it needs
abbrev lacks_sequence : DeliverPolicy → Bool
lacks_sequence policy = same (deliver_policy_text policy) (codes "by_start_sequence") && (natural_or_0 (found (sequence_read policy)) == 0)

abbrev lacks_time : DeliverPolicy → Bool
lacks_time policy = same (deliver_policy_text policy) (codes "by_start_time") && is_none (found (time_read policy))

has_sequence : (policy : DeliverPolicy) → is_start policy ≡ true → lacks_sequence policy ≡ false
has_sequence delivers.All h = refl
has_sequence delivers.Last h = refl
has_sequence delivers.New h = refl
has_sequence (delivers.ByStartSequence seq) h = not_0 seq (and_parts (nat_lt 0 seq) (is_number seq) h).0
has_sequence (delivers.ByStartTime at) h = refl
has_sequence delivers.LastPerSubject h = refl

has_time : (policy : DeliverPolicy) → is_start policy ≡ true → lacks_time policy ≡ false
has_time delivers.All h = refl
has_time delivers.Last h = refl
has_time delivers.New h = refl
has_time (delivers.ByStartSequence seq) h = refl
has_time (delivers.ByStartTime at) h = rw (time_again at h) refl
has_time delivers.LastPerSubject h = refl

policy_back : (policy : DeliverPolicy) → is_start policy ≡ true
    → deliver_policy_of (deliver_policy_text policy) (natural_or_0 (found (sequence_read policy))) (found (time_read policy)) ≡ policy
policy_back delivers.All h = refl
policy_back delivers.Last h = refl
policy_back delivers.New h = refl
policy_back (delivers.ByStartSequence seq) h = refl
policy_back (delivers.ByStartTime at) h = rw (time_again at h) refl
policy_back delivers.LastPerSubject h = refl

-- ---- none of its fields is refused

abbrev shown : ConsumerConfig → Members
shown c = with_nulls (entries c)

passing : (c : ConsumerConfig) → ConfigParts c → Passing (shown c) table
unfolding standing table flag_in number_in text_in time_in is_numeral is_given
passing c p =
    let fields = shown c in (
      ack_stands c.ack_policy,
      (
        counted most c.ack_wait (below c.ack_wait p.wait),
        passing_from fields 1 (drop 2 table) refl (
          grouped _ c.deliver_group _ c.deliver_subject p.group,
          (
            policy_stands c.deliver_policy,
            (
              directed _ c.deliver_subject p.subject,
              (
                described _ c.description p.description,
                passing_from fields 1 (drop 7 table) refl (
                  filtered _ c.filter_subject p.filter,
                  passing_from fields 3 (drop 9 table) refl (
                    beats _ _ c.deliver_subject c.idle_heartbeat p.heartbeat p.beats,
                    passing_from fields 1 (drop 13 table) refl (
                      limited _ 65536 c.max_ack_pending p.pending,
                      passing_from fields 2 (drop 15 table) refl (
                        limited _ most c.max_deliver p.deliver,
                        passing_from fields 1 (drop 18 table) refl (
                          counted 65536 c.max_waiting p.waiting,
                          passing_from fields 3 (drop 20 table) refl (
                            sequence_stands c.deliver_policy p.start,
                            (time_stands c.deliver_policy p.start, passing_from fields 4 (drop 25 table) refl tt),
                          ),
                        ),
                      ),
                    ),
                  ),
                ),
              ),
            ),
          ),
        ),
      ),
    )

starts : (c : ConsumerConfig) → ConfigParts c → first_refusal (start_checks (shown c)) ≡ None
unfolding number_in text_in time_in
starts c p = rw (has_sequence c.deliver_policy p.start, has_time c.deliver_policy p.start) refl

filled : (name : Bytes) → not (is_empty name) ≡ true → is_empty name ≡ false
filled [] h = absurd (cc)
filled (byte ∷ more) h = refl

named : (c : ConsumerConfig) → ConfigParts c → first_refusal (name_checks c.name (shown c)) ≡ None
unfolding text_in
named c p = rw (filled c.name (name_parts c.name p.name).filled, same_self c.name) refl

-- ---- and it is what they say

config_back : (c : ConsumerConfig) → ConfigParts c → c ≡ config_in c.name (shown c)
unfolding config_in number_in text_in time_in
config_back c p =
    rw (
      ack_back c.ack_policy,
      usual_back usual_ack_wait c.ack_wait p.wait_some,
      text_back (codes "deliver_group") c.deliver_group,
      policy_back c.deliver_policy p.start,
      text_back (codes "deliver_subject") c.deliver_subject,
      text_back (codes "description") c.description,
      text_back (codes "filter_subject") c.filter_subject,
      number_back (codes "idle_heartbeat") c.idle_heartbeat,
      pending_back (codes "max_ack_pending") c.max_ack_pending p.pending,
      limit_back (codes "max_deliver") most c.max_deliver p.deliver,
      usual_back 512 c.max_waiting p.waiting_some,
    ) refl

shown_read : (c : ConsumerConfig) → ConfigParts c → reading c.name (shown c) ≡ Ok c
shown_read c p = read_whole c.name (shown c) c (none_refused (shown c) table (passing c p)) (starts c p) (named c p) (config_back c p)

pub printed_read : (c : ConsumerConfig) → IsTrue (is_consumer_config c) → reading c.name (printed c) ≡ Ok c
unfolding printed
printed_read c is = reading_same c.name (object_with (entries c)) (shown c) (fields_same (entries c) refl) ∙ shown_read c (config_parts c is)
