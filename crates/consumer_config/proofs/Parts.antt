-- The parts of a consumer's configuration, and that each can be printed.
use Rattle.std.proofs.Common.{◌≡◌, ◌-◌, ◌^◌, true, ◌&&◌, ◌||◌, ◌==◌, not, [], ◌∷◌, nat_lt, nat_le, length, IsUtf8, IsTrue, refl}
use Rattle.std.specs.List.{list_all}
use Rattle.std.specs.Str.{is_utf8, chars}
use Rattle.std.proofs.lemmas.Bool.{and_parts}
use Rattle.std.proofs.lemmas.Str.{IsUtf8-from_is_utf8}
use Rattle.js_base.specs.Bytes.{Bytes, is_empty}
use Rattle.js_base.specs.ServerSubjects.{is_own}
use Rattle.js_base.specs.Subjects.{tokens, is_pattern, is_plain, is_pattern_text, is_subject_text, is_spelled, is_token_byte}
use Rattle.js_model.specs.Configs.{is_name, is_limit, is_number, is_description, is_start, is_queue_name, is_deliver_subject, is_consumer_config}
use Rattle.js_model.specs.declared.consumer_config.ConsumerConfig.{ConsumerConfig}
use Rattle.js_model.proofs.NameTexts.{name_utf8}
use Rattle.consumer_config.specs.Printing.{IsPrinted}

pub record ConfigParts (c : ConsumerConfig) : Type 0 where
  pub name : is_name c.name ≡ true
  pub description : is_description c.description ≡ true
  pub start : is_start c.deliver_policy ≡ true
  pub wait_some : nat_lt 0 c.ack_wait ≡ true
  pub wait : is_number c.ack_wait ≡ true
  pub deliver : is_limit (2 ^ 62 - 1) c.max_deliver ≡ true
  pub pending : is_limit 65536 c.max_ack_pending ≡ true
  pub waiting_some : nat_lt 0 c.max_waiting ≡ true
  pub waiting : nat_le c.max_waiting 65536 ≡ true
  pub filter : (is_empty c.filter_subject || is_pattern_text c.filter_subject) ≡ true
  pub subject : (is_empty c.deliver_subject || is_deliver_subject c.deliver_subject) ≡ true
  pub group : (is_empty c.deliver_group || is_queue_name c.deliver_group && not (is_empty c.deliver_subject)) ≡ true
  pub heartbeat : is_number c.idle_heartbeat ≡ true
  pub beats : ((c.idle_heartbeat == 0) || not (is_empty c.deliver_subject)) ≡ true

pub config_parts : (c : ConsumerConfig) → IsTrue (is_consumer_config c) → ConfigParts c
config_parts c h =
    let beats = and_parts _ _ h in
    let heartbeat = and_parts _ _ beats.0 in
    let group = and_parts _ _ heartbeat.0 in
    let subject = and_parts _ _ group.0 in
    let filter = and_parts _ _ subject.0 in
    let waiting = and_parts _ _ filter.0 in
    let waiting_some = and_parts _ _ waiting.0 in
    let pending = and_parts _ _ waiting_some.0 in
    let deliver = and_parts _ _ pending.0 in
    let wait = and_parts _ _ deliver.0 in
    let wait_some = and_parts _ _ wait.0 in
    let start = and_parts _ _ wait_some.0 in
    let names = and_parts _ _ start.0 in
    record {
      name = names.0;
      description = names.1;
      start = start.1;
      wait_some = wait_some.1;
      wait = wait.1;
      deliver = deliver.1;
      pending = pending.1;
      waiting_some = waiting_some.1;
      waiting = waiting.1;
      filter = filter.1;
      subject = subject.1;
      group = group.1;
      heartbeat = heartbeat.1;
      beats = beats.1;
    }

-- ---- each can be printed

description_utf8 : (text : Bytes) → is_description text ≡ true → IsUtf8 text
description_utf8 text h = IsUtf8-from_is_utf8 text (and_parts (nat_le (length text) 4096) (is_utf8 text) h).1

spelled_utf8 : (text : Bytes) → is_spelled text ≡ true → IsUtf8 text
spelled_utf8 text h =
    let tokens_are = and_parts (nat_lt 0 (length text) && nat_le (length text) 1024 && list_all is_token_byte text && is_utf8 text) (list_all (λ token. not (is_empty token)) (tokens text)) h in
    IsUtf8-from_is_utf8 text (and_parts (nat_lt 0 (length text) && nat_le (length text) 1024 && list_all is_token_byte text) (is_utf8 text) tokens_are.0).1

empty_utf8 : IsUtf8 []
unfolding is_utf8 chars
empty_utf8 = IsUtf8-from_is_utf8 [] refl

filter_utf8 : (text : Bytes) → (is_empty text || is_pattern_text text) ≡ true → IsUtf8 text
filter_utf8 [] h = empty_utf8
filter_utf8 (byte ∷ more) h = spelled_utf8 (byte ∷ more) (and_parts (is_spelled (byte ∷ more)) (is_pattern (tokens (byte ∷ more))) h).0

subject_utf8 : (text : Bytes) → (is_empty text || is_deliver_subject text) ≡ true → IsUtf8 text
subject_utf8 [] h = empty_utf8
subject_utf8 (byte ∷ more) h =
    let is = and_parts (is_subject_text (byte ∷ more)) (not (is_own (byte ∷ more))) h in
    spelled_utf8 (byte ∷ more) (and_parts (is_spelled (byte ∷ more)) (is_plain (tokens (byte ∷ more))) is.0).0

group_utf8 : (text subject : Bytes) → (is_empty text || is_queue_name text && not (is_empty subject)) ≡ true → IsUtf8 text
group_utf8 [] subject h = empty_utf8
group_utf8 (byte ∷ more) subject h =
    let is = and_parts (is_queue_name (byte ∷ more)) (not (is_empty subject)) h in
    IsUtf8-from_is_utf8 (byte ∷ more) (and_parts _ (is_utf8 (byte ∷ more)) is.0).1

pub printable : (c : ConsumerConfig) → IsTrue (is_consumer_config c) → IsPrinted c
printable c h =
    let parts = config_parts c h in
    record {
      deliver_group = group_utf8 c.deliver_group c.deliver_subject parts.group;
      deliver_subject = subject_utf8 c.deliver_subject parts.subject;
      description = description_utf8 c.description parts.description;
      filter_subject = filter_utf8 c.filter_subject parts.filter;
      name = name_utf8 c.name parts.name;
    }
