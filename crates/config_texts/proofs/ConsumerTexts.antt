-- The texts of consumers' configurations: a text is read as a configuration exactly if it is that configuration's.
use Rattle.std.proofs.Common.{◌≡◌, ℕ, ◌<◌, ◌^◌, ◌-◌, nat_le, ◌==◌, Bool, true, false, Some, None, Result, Ok, codes, IsTrue, IsUtf8, refl, sym, ap, subst, ◌∙◌, if◌then◌else◌, arith}
use Rattle.std.proofs.lemmas.Bool.{and_parts}
use Rattle.std.proofs.lemmas.Bool.Decides.{nat_tests}
use Rattle.std.specs.Prelude.{option_and_then}
use Rattle.json.proofs.Printed.Utf8.{IsUtf8-are_ascii}
use Rattle.serde_json.specs.Data.{Members}
use Rattle.js_base.specs.Bytes.{Bytes, same}
use Rattle.js_base.proofs.Meeting.{same_is, same_self}
use Rattle.js_json.specs.Objects.{object_of}
use Rattle.js_model.proofs.Named.{some_is}
use Rattle.js_json.specs.declared.fault.JsonFault.{JsonFault}
use Rattle.js_json.specs.Times.{time_text}
use Rattle.js_json.proofs.TimeBytes.{spelled_utf8}
use Rattle.js_json.proofs.Written.{written}
use Rattle.js_model.specs.Configs.{is_number, is_start, is_consumer_config}
use Rattle.js_model.specs.declared.consumer_config.AckPolicy.{AckPolicy}
use Rattle.js_model.specs.declared.consumer_config.AckPolicy.TheVariants as acks
use Rattle.js_model.specs.declared.consumer_config.DeliverPolicy.{DeliverPolicy}
use Rattle.js_model.specs.declared.consumer_config.DeliverPolicy.TheVariants as delivers
use Rattle.js_model.specs.declared.consumer_config.ConsumerConfig.{ConsumerConfig}
use Rattle.consumer_config.specs.Reading.{reading}
use Rattle.consumer_config.specs.Printing.{ack_policy_text, deliver_policy_text, sequence_shown, time_shown, entries, printed as consumer_printed}
use Rattle.consumer_config.proofs.Parts.{config_parts, printable}
use Rattle.consumer_config.proofs.Printed.{printed_read}
use Rattle.consumer_config.proofs.Valid.{read_valid}
use Rattle.config_texts.specs.Laws.{IsConsumerText, LawConsumerText}
use Rattle.config_texts.specs.Reading.{allowed, name_in, consumer_in, if_consumer_text, consumer_of}
use Rattle.config_texts.specs.Texts.{consumer_text}
use Rattle.config_texts.proofs.Entries.{Each, OnShown, KeysAreUtf8, keys_utf8, object_back, named, text_if, number_if, number_solid, limit_solid, then_some, allowed_back, name_is}
use Rattle.config_texts.proofs.Names.{name_back}
use Rattle.config_texts.proofs.Solid.{Solid, text_solid, count_solid}

-- ---- the entries read back

ack_utf8 : (policy : AckPolicy) → IsUtf8 (ack_policy_text policy)
ack_utf8 acks.None = IsUtf8-are_ascii _ refl
ack_utf8 acks.All = IsUtf8-are_ascii _ refl
ack_utf8 acks.Explicit = IsUtf8-are_ascii _ refl

policy_utf8 : (policy : DeliverPolicy) → IsUtf8 (deliver_policy_text policy)
policy_utf8 delivers.All = IsUtf8-are_ascii _ refl
policy_utf8 delivers.Last = IsUtf8-are_ascii _ refl
policy_utf8 delivers.New = IsUtf8-are_ascii _ refl
policy_utf8 (delivers.ByStartSequence seq) = IsUtf8-are_ascii _ refl
policy_utf8 (delivers.ByStartTime at) = IsUtf8-are_ascii _ refl
policy_utf8 delivers.LastPerSubject = IsUtf8-are_ascii _ refl

sequence_solid : (policy : DeliverPolicy) → is_start policy ≡ true → OnShown Solid (sequence_shown policy)
sequence_solid delivers.All is = tt
sequence_solid delivers.Last is = tt
sequence_solid delivers.New is = tt
sequence_solid (delivers.ByStartSequence seq) is = number_solid seq (and_parts _ (is_number seq) is).1
sequence_solid (delivers.ByStartTime at) is = tt
sequence_solid delivers.LastPerSubject is = tt

narrow : (n : ℕ) → is_number n ≡ true → n < 2 ^ 62
narrow n h = grind (arith, nat_tests)

time_solid : (policy : DeliverPolicy) → is_start policy ≡ true → OnShown Solid (time_shown policy)
time_solid delivers.All is = tt
time_solid delivers.Last is = tt
time_solid delivers.New is = tt
time_solid (delivers.ByStartSequence seq) is = tt
time_solid (delivers.ByStartTime at) is = text_solid (time_text at) (spelled_utf8 (time_text at) at (written at (narrow at is)))
time_solid delivers.LastPerSubject is = tt

wide : (n : ℕ) → is_number n ≡ true → n < 2 ^ 64
wide n h = grind (arith, nat_tests)

few : (n : ℕ) → nat_le n 65536 ≡ true → n < 2 ^ 64
few n h = grind (arith, nat_tests)

solid : (c : ConsumerConfig) → IsTrue (is_consumer_config c) → Each Solid (entries c)
solid c is =
    let texts = printable c is in
    let parts = config_parts c is in (
      text_solid (ack_policy_text c.ack_policy) (ack_utf8 c.ack_policy),
      (
        number_solid c.ack_wait parts.wait,
        (
          text_if c.deliver_group texts.deliver_group,
          (
            text_solid (deliver_policy_text c.deliver_policy) (policy_utf8 c.deliver_policy),
            (
              text_if c.deliver_subject texts.deliver_subject,
              (
                text_if c.description texts.description,
                (
                  text_solid c.name texts.name,
                  (
                    text_if c.filter_subject texts.filter_subject,
                    (
                      number_if (c.idle_heartbeat == 0) c.idle_heartbeat (wide c.idle_heartbeat parts.heartbeat),
                      (
                        limit_solid 65536 c.max_ack_pending refl parts.pending,
                        (
                          limit_solid (2 ^ 62 - 1) c.max_deliver refl parts.deliver,
                          (
                            count_solid c.max_waiting (few c.max_waiting parts.waiting),
                            (
                              text_solid c.name texts.name,
                              (
                                sequence_solid c.deliver_policy parts.start,
                                (
                                  time_solid c.deliver_policy parts.start,
                                  (text_solid (codes "instant") (IsUtf8-are_ascii _ refl), tt),
                                ),
                              ),
                            ),
                          ),
                        ),
                      ),
                    ),
                  ),
                ),
              ),
            ),
          ),
        ),
      ),
    )

-- ---- a configuration is read from its text

keys : (c : ConsumerConfig) → KeysAreUtf8 (entries c)
keys c = keys_utf8 (entries c) refl

back : (c : ConsumerConfig) → IsTrue (is_consumer_config c) → object_of (consumer_text c) ≡ Ok (consumer_printed c)
unfolding consumer_text consumer_printed
back c is = object_back (entries c) refl (solid c is) (keys c)

name_there : (c : ConsumerConfig) → IsTrue (is_consumer_config c) → name_in (consumer_printed c) ≡ Some c.name
unfolding consumer_printed
name_there c is = named (entries c) c.name refl refl (name_back c.name (config_parts c is).name)

is_in : (c : ConsumerConfig) → IsTrue (is_consumer_config c) → reading c.name (consumer_printed c) ≡ Ok c → consumer_in (consumer_printed c) ≡ Some c
unfolding consumer_in
is_in c is read = rw (name_there c is, read) refl

own_text : (text : Bytes) (c : ConsumerConfig) → text ≡ consumer_text c → if_consumer_text text c ≡ Some c
own_text text c e = rw (e, same_self (consumer_text c)) refl

from_text : (text : Bytes) (c : ConsumerConfig) → IsConsumerText text c → consumer_of text ≡ Some c
unfolding consumer_of
from_text text c t =
    ap (λ (r : Result Members JsonFault). option_and_then (if_consumer_text text) (option_and_then consumer_in (allowed r))) (ap object_of t.spelled ∙ back c t.valid)
    ∙ ap (option_and_then (if_consumer_text text)) (is_in c t.valid (printed_read c t.valid)) ∙ own_text text c t.spelled

-- ---- and what is read has this text

record Same (text : Bytes) (read c : ConsumerConfig) : Type 0 where
  config_is : read ≡ c
  spelled : text ≡ consumer_text read

same_text : (text : Bytes) (read c : ConsumerConfig) → if_consumer_text text read ≡ Some c → Same text read c
same_text text read c h = by (same (consumer_text read) text) refl h
  where
    by : (is : Bool) → same (consumer_text read) text ≡ is → (if is then Some read else None) ≡ Some c → Same text read c
    by true e h = record { config_is = some_is h; spelled = sym (same_is (consumer_text read) text e) }
    by false e h = absurd (cc)

to_text : (text : Bytes) (c : ConsumerConfig) → consumer_of text ≡ Some c → IsConsumerText text c
unfolding consumer_of consumer_in
to_text text c h =
    let whole = then_some (if_consumer_text text) (option_and_then consumer_in (allowed (object_of text))) c h in
    let fields = then_some consumer_in (allowed (object_of text)) whole.value whole.first_is in
    let name = then_some (λ (name : Bytes). allowed (reading name fields.value)) (name_in fields.value) whole.value fields.then_is in
    let read = allowed_back (reading name.value fields.value) whole.value name.then_is in
    let own = same_text text whole.value c whole.then_is in
    subst (IsConsumerText text) own.config_is (record { valid = read_valid name.value fields.value whole.value (name_is fields.value name.value name.first_is) read; spelled = own.spelled })

pub law_consumer_text : LawConsumerText
law_consumer_text text c = (to_text text c, from_text text c)
