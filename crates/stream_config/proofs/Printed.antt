-- What is printed of a configuration is read as the same.
use Rattle.std.proofs.Common.{◌≡◌, ℕ, zero, suc, ◌^◌, ◌-◌, pos, List, [], ◌∷◌, true, false, ◌&&◌, ◌||◌, ◌==◌, not, nat_lt, nat_le, length, drop, IsTrue, Option, Some, None, Ok, codes, refl, sym, subst, if◌then◌else◌, arith}
use Rattle.std.specs.List.{list_all}
use Rattle.std.proofs.lemmas.Bool.{and_parts, and_from}
use Rattle.std.proofs.lemmas.Bool.Decides.{nat_tests}
use Rattle.serde_json.specs.Data.{array}
use Rattle.serde_json.specs.Find.{as_str}
use Rattle.js_base.specs.Bytes.{Bytes, is_empty}
use Rattle.js_base.proofs.Meeting.{same_self}
use Rattle.js_json.specs.Building.{limit, texts}
use Rattle.js_json.specs.Kinds.{all_as, as_texts, as_whole}
use Rattle.js_json.specs.Fields.{taken, unless_null, flag_in, number_in, text_in, texts_in, part_in, is_number as is_numeral, is_given}
use Rattle.js_model.specs.Configs.{is_limit, is_number, is_description, is_stream_subject, is_stream_config}
use Rattle.js_model.specs.Refusals.{first_refusal, name_mismatch}
use Rattle.js_model.specs.declared.stream_config.Retention.{Retention}
use Rattle.js_model.specs.declared.stream_config.Retention.TheVariants.{Limits, Interest, WorkQueue}
use Rattle.js_model.specs.declared.stream_config.Discard.{Discard}
use Rattle.js_model.specs.declared.stream_config.Discard.TheVariants.{Old, New as DiscardNew}
use Rattle.js_model.specs.declared.stream_config.StreamConfig.{StreamConfig}
use Rattle.stream_config.specs.declared.rule.TextRule.TheVariants.{Description, Discard as Discarding, Retention as Retaining}
use Rattle.stream_config.specs.declared.rule.NumberRule.TheVariants.{Window}
use Rattle.stream_config.specs.Standings.{limit_standing, nanos_standing, text_standing, number_standing, subjects_standing, are_subjects, is_subject}
use Rattle.stream_config.specs.Table.{table, most}
use Rattle.stream_config.specs.Reading.{found, judged, is_refused, is_other, names_another, natural_or_0, limit_of, discard_of, retention_of, window_of, reading, standing, config_in, subjects_or}
use Rattle.stream_config.specs.Printing.{discard_text, retention_text, printed}
use Rattle.stream_config.proofs.Numbers.{some, nanos_is, limit_is, limit_kept, window_kept}
use Rattle.stream_config.proofs.Limits.{LimitParts, limit_parts}
use Rattle.stream_config.proofs.Passing.{Passing, none_refused, passing_from}
use Rattle.stream_config.proofs.Refusing.{read_whole}
use Rattle.js_model.proofs.ConfigParts.{ConfigParts, config_parts}

-- ---- the values that are not the usual ones

-- the texts of a list are read back
texts_back : (list : List Bytes) → all_as as_str (texts list) ≡ Some list
texts_back [] = refl
texts_back (text ∷ more) = rw (texts_back more) refl

below : (n : ℕ) → is_number n ≡ true → nat_le n (2 ^ 62 - 1) ≡ true
below n h = grind (arith, nat_tests)

discard_stands : (policy : Discard) → is_refused (text_standing Discarding (discard_text policy)) ≡ false
discard_stands Old = refl
discard_stands DiscardNew = refl

discard_back : (policy : Discard) → discard_of (discard_text policy) ≡ policy
discard_back Old = refl
discard_back DiscardNew = refl

retention_stands : (policy : Retention) → is_refused (text_standing Retaining (retention_text policy)) ≡ false
retention_stands Limits = refl
retention_stands Interest = refl
retention_stands WorkQueue = refl

retention_back : (policy : Retention) → retention_of (retention_text policy) ≡ policy
retention_back Limits = refl
retention_back Interest = refl
retention_back WorkQueue = refl

age_stands : (age : ℕ) → is_number age ≡ true → is_refused (nanos_standing (pos age)) ≡ false
age_stands n h = rw (nanos_is n, below n h) refl

-- an age that is shown is that of the stream
age_shown : (age : ℕ) → is_number age ≡ true → (if nat_lt age (2 ^ 62) then age else 0) ≡ age
age_shown age h = rw h refl

not_above : (age window : ℕ) → ((age == 0) || nat_le window age) ≡ true → (nat_lt 0 age && nat_lt age window) ≡ false
not_above age window h = grind (arith, nat_tests)

window_fits : (age window : ℕ) → nat_lt 0 window ≡ true → is_number window ≡ true → ((age == 0) || nat_le window age) ≡ true
    → is_refused (number_standing Window age (pos window)) ≡ false
window_fits age window some number within = rw (not_above age window within, nanos_is window, below window number) refl

window_stands : (age window : ℕ) → nat_lt 0 window ≡ true → is_number window ≡ true → is_number age ≡ true → ((age == 0) || nat_le window age) ≡ true
    → is_refused (number_standing Window (if nat_lt age (2 ^ 62) then age else 0) (pos window)) ≡ false
window_stands age window some number small within =
    subst (λ (n : ℕ). is_refused (number_standing Window n (pos window)) ≡ false) (sym (age_shown age small)) (window_fits age window some number within)

limit_stands : (name : Bytes) (greatest : ℕ) (most : Option ℕ) → is_limit greatest most ≡ true
    → is_refused (judged (limit_standing greatest) (taken as_whole name (unless_null (limit most)))) ≡ false
limit_stands name greatest None h = refl
limit_stands name greatest (Some n) h = let parts = and_parts (nat_lt 0 n) (nat_le n greatest) h in rw (limit_is greatest n, parts.1) refl

-- the limit that is read of what is printed of one
abbrev read_limit : Bytes → Option ℕ → Option ℕ
read_limit name most = limit_of (natural_or_0 (found (taken as_whole name (unless_null (limit most)))))

limit_back : (name : Bytes) (greatest : ℕ) (most : Option ℕ) → is_limit greatest most ≡ true → read_limit name most ≡ most
limit_back name greatest None h = refl
limit_back name greatest (Some n) h = limit_kept n (and_parts (nat_lt 0 n) (nat_le n greatest) h).0

-- this configuration, with another description
abbrev described_by : Bytes → StreamConfig → StreamConfig
described_by description c = record c { description = description }

-- ---- none of its fields is refused

described_stands : (text : Bytes) → is_description text ≡ true → is_refused (text_standing Description text) ≡ false
described_stands text h = rw h refl

stand : (subjects : List Bytes) → not (is_empty subjects) ≡ true → nat_le (length subjects) 256 ≡ true → list_all is_stream_subject subjects ≡ true → is_refused (subjects_standing subjects) ≡ false
unfolding is_subject
stand [] filled few each = absurd (cc)
stand (subject ∷ more) filled few each = let are : are_subjects (subject ∷ more) ≡ true = and_from _ _ few each in rw are refl

pub subjects_stand : (subjects : List Bytes) → not (is_empty subjects) ≡ true → nat_le (length subjects) 256 ≡ true → list_all is_stream_subject subjects ≡ true
    → is_refused (judged subjects_standing (taken as_texts (codes "subjects") (Some (array (texts subjects))))) ≡ false
subjects_stand subjects filled few each = rw (texts_back subjects) (stand subjects filled few each)

passing : (description : Bytes) (c : StreamConfig) → is_description description ≡ true → ConfigParts c → LimitParts c → Passing (printed (described_by description c)) table
unfolding printed standing table flag_in number_in text_in texts_in part_in is_numeral is_given
passing [] c described p l =
    let fields = printed (described_by [] c) in
    passing_from fields 8 table refl (
      discard_stands c.discard,
      passing_from fields 1 (drop 9 table) refl (
        window_stands c.max_age c.duplicate_window p.some p.window l.age l.within,
        passing_from fields 1 (drop 11 table) refl (
          age_stands c.max_age l.age,
          (
            limit_stands _ most c.max_bytes l.bytes,
            (
              limit_stands _ 256 c.max_consumers p.consumers,
              (
                limit_stands _ most c.max_msg_size l.size,
                (
                  limit_stands _ most c.max_msgs l.msgs,
                  (
                    limit_stands _ most c.max_msgs_per_subject l.for_each,
                    passing_from fields 7 (drop 18 table) refl (retention_stands c.retention, passing_from fields 4 (drop 26 table) refl (subjects_stand c.subjects p.filled p.few p.subjects, (refl, tt))),
                  ),
                ),
              ),
            ),
          ),
        ),
      ),
    )
passing (byte ∷ bytes) c described p l =
    let fields = printed (described_by (byte ∷ bytes) c) in
    passing_from fields 7 table refl (
      described_stands (byte ∷ bytes) described,
      (
        discard_stands c.discard,
        passing_from fields 1 (drop 9 table) refl (
          window_stands c.max_age c.duplicate_window p.some p.window l.age l.within,
          passing_from fields 1 (drop 11 table) refl (
            age_stands c.max_age l.age,
            (
              limit_stands _ most c.max_bytes l.bytes,
              (
                limit_stands _ 256 c.max_consumers p.consumers,
                (
                  limit_stands _ most c.max_msg_size l.size,
                  (
                    limit_stands _ most c.max_msgs l.msgs,
                    (
                      limit_stands _ most c.max_msgs_per_subject l.for_each,
                      passing_from fields 7 (drop 18 table) refl (retention_stands c.retention, passing_from fields 4 (drop 26 table) refl (subjects_stand c.subjects p.filled p.few p.subjects, (refl, tt))),
                    ),
                  ),
                ),
              ),
            ),
          ),
        ),
      ),
    )

named : (name : Bytes) → first_refusal ((is_other name (Some name), name_mismatch) ∷ []) ≡ None
named name = rw (same_self name) refl

same_name : (description : Bytes) (c : StreamConfig) → first_refusal ((names_another c.name (printed (described_by description c)), name_mismatch) ∷ []) ≡ None
unfolding printed text_in
same_name [] c = named c.name
same_name (byte ∷ bytes) c = named c.name

-- ---- and it is what they say

-- the subjects that are read of what is printed of some
abbrev read_subjects : Bytes → List Bytes → List Bytes
read_subjects name subjects = subjects_or name (found (taken as_texts (codes "subjects") (Some (array (texts subjects)))))

pub subjects_back : (name : Bytes) (subjects : List Bytes) → not (is_empty subjects) ≡ true → read_subjects name subjects ≡ subjects
subjects_back name subjects filled = rw (texts_back subjects) (some_are subjects filled)
  where
    some_are : (subjects : List Bytes) → not (is_empty subjects) ≡ true → subjects_or name (Some subjects) ≡ subjects
    some_are [] filled = absurd (cc)
    some_are (subject ∷ more) filled = refl

-- each of these values is that of the configuration
record AreBack (c : StreamConfig) (policy : Discard) (retention : Retention) (window : ℕ) (bytes consumers size msgs for_each : Option ℕ) (subjects : List Bytes) : Type 0 where
  policy_is : policy ≡ c.discard
  retention_is : retention ≡ c.retention
  window_is : window ≡ c.duplicate_window
  bytes_are : bytes ≡ c.max_bytes
  consumers_are : consumers ≡ c.max_consumers
  size_is : size ≡ c.max_msg_size
  msgs_are : msgs ≡ c.max_msgs
  for_each_is : for_each ≡ c.max_msgs_per_subject
  subjects_are : subjects ≡ c.subjects

all_back : (description : Bytes) (c : StreamConfig) (policy : Discard) (retention : Retention) (window : ℕ) (bytes consumers size msgs for_each : Option ℕ) (subjects : List Bytes)
    → AreBack c policy retention window bytes consumers size msgs for_each subjects
    → described_by description c ≡ record {
      description = description;
      discard = policy;
      duplicate_window = window;
      max_age = c.max_age;
      max_bytes = bytes;
      max_consumers = consumers;
      max_msg_size = size;
      max_msgs = msgs;
      max_msgs_per_subject = for_each;
      name = c.name;
      retention = retention;
      subjects = subjects;
    }
all_back description c policy retention window bytes consumers size msgs for_each subjects b =
    rw (b.policy_is, b.retention_is, b.window_is, b.bytes_are, b.consumers_are, b.size_is, b.msgs_are, b.for_each_is, b.subjects_are) refl

parts_back : (c : StreamConfig) → ConfigParts c → LimitParts c
    → AreBack c (discard_of (discard_text c.discard)) (retention_of (retention_text c.retention)) (window_of c.max_age c.duplicate_window) (read_limit (codes "max_bytes") c.max_bytes)
    (read_limit (codes "max_consumers") c.max_consumers) (read_limit (codes "max_msg_size") c.max_msg_size) (read_limit (codes "max_msgs") c.max_msgs)
    (read_limit (codes "max_msgs_per_subject") c.max_msgs_per_subject) (read_subjects c.name c.subjects)
parts_back c p l = record {
  policy_is = discard_back c.discard;
  retention_is = retention_back c.retention;
  window_is = window_kept c.max_age c.duplicate_window p.some;
  bytes_are = limit_back (codes "max_bytes") most c.max_bytes l.bytes;
  consumers_are = limit_back (codes "max_consumers") 256 c.max_consumers p.consumers;
  size_is = limit_back (codes "max_msg_size") most c.max_msg_size l.size;
  msgs_are = limit_back (codes "max_msgs") most c.max_msgs l.msgs;
  for_each_is = limit_back (codes "max_msgs_per_subject") most c.max_msgs_per_subject l.for_each;
  subjects_are = subjects_back c.name c.subjects p.filled;
}

config_back : (description : Bytes) (c : StreamConfig) → ConfigParts c → LimitParts c → described_by description c ≡ config_in c.name (printed (described_by description c))
unfolding printed config_in number_in text_in texts_in
config_back [] c p l = all_back [] c _ _ _ _ _ _ _ _ _ (parts_back c p l)
config_back (byte ∷ bytes) c p l = all_back (byte ∷ bytes) c _ _ _ _ _ _ _ _ _ (parts_back c p l)

read_back : (description : Bytes) (c : StreamConfig) → is_description description ≡ true → ConfigParts c → LimitParts c
    → reading c.name (printed (described_by description c)) ≡ Ok (described_by description c)
read_back description c described p l =
    let config = described_by description c in
    read_whole c.name (printed config) config (none_refused (printed config) table (passing description c described p l)) (same_name description c) (config_back description c p l)

pub printed_read : (c : StreamConfig) → IsTrue (is_stream_config c) → reading c.name (printed c) ≡ Ok c
printed_read c is = let p = config_parts c is in read_back c.description c p.description p (limit_parts c is)
