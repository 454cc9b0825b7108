-- The limits of a valid configuration of a stream on its messages.
use Rattle.std.proofs.Common.{◌≡◌, ◌-◌, ◌^◌, true, ◌||◌, ◌==◌, nat_le, IsTrue}
use Rattle.std.proofs.lemmas.Bool.{and_parts}
use Rattle.js_model.specs.Configs.{is_limit, is_number, is_stream_config}
use Rattle.js_model.specs.declared.stream_config.StreamConfig.{StreamConfig}

pub record LimitParts (c : StreamConfig) : Type 0 where
  pub msgs : is_limit (2 ^ 62 - 1) c.max_msgs ≡ true
  pub bytes : is_limit (2 ^ 62 - 1) c.max_bytes ≡ true
  pub for_each : is_limit (2 ^ 62 - 1) c.max_msgs_per_subject ≡ true
  pub size : is_limit (2 ^ 62 - 1) c.max_msg_size ≡ true
  pub age : is_number c.max_age ≡ true
  pub within : ((c.max_age == 0) || nat_le c.duplicate_window c.max_age) ≡ true

pub limit_parts : (c : StreamConfig) → IsTrue (is_stream_config c) → LimitParts c
limit_parts c h =
    let within = and_parts _ _ h in
    let some = and_parts _ _ within.0 in
    let window = and_parts _ _ some.0 in
    let age = and_parts _ _ window.0 in
    let consumers = and_parts _ _ age.0 in
    let size = and_parts _ _ consumers.0 in
    let for_each = and_parts _ _ size.0 in
    let bytes = and_parts _ _ for_each.0 in
    let msgs = and_parts _ _ bytes.0 in
    record { msgs = msgs.1; bytes = bytes.1; for_each = for_each.1; size = size.1; age = age.1; within = within.1 }
