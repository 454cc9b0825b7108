-- The parts of a valid configuration of a stream.
use Rattle.std.proofs.Common.{◌≡◌, true, not, nat_lt, nat_le, length, IsTrue}
use Rattle.std.specs.List.{list_all}
use Rattle.std.proofs.lemmas.Bool.{and_parts}
use Rattle.js_base.specs.Bytes.{is_empty}
use Rattle.js_model.specs.Configs.{is_name, is_limit, is_number, is_description, is_stream_subject, is_stream_config}
use Rattle.js_model.specs.declared.stream_config.StreamConfig.{StreamConfig}

-- but for the limits on messages
pub record ConfigParts (c : StreamConfig) : Type 0 where
  pub name : is_name c.name ≡ true
  pub description : is_description c.description ≡ true
  pub filled : not (is_empty c.subjects) ≡ true
  pub few : nat_le (length c.subjects) 256 ≡ true
  pub subjects : list_all is_stream_subject c.subjects ≡ true
  pub consumers : is_limit 256 c.max_consumers ≡ true
  pub window : is_number c.duplicate_window ≡ true
  pub some : nat_lt 0 c.duplicate_window ≡ true

pub config_parts : (c : StreamConfig) → IsTrue (is_stream_config c) → ConfigParts c
config_parts c h =
    let within = and_parts _ _ h in
    let some = and_parts _ _ within.0 in
    let window = and_parts _ _ some.0 in
    let age = and_parts _ _ window.0 in
    let consumers = and_parts _ _ age.0 in
    let size = and_parts _ _ consumers.0 in
    let for_each = and_parts _ _ size.0 in
    let bytes = and_parts _ _ for_each.0 in
    let msgs = and_parts _ _ bytes.0 in
    let subjects = and_parts _ _ msgs.0 in
    let few = and_parts _ _ subjects.0 in
    let filled = and_parts _ _ few.0 in
    let names = and_parts _ _ filled.0 in
    record { name = names.0; description = names.1; filled = filled.1; few = few.1; subjects = subjects.1; consumers = consumers.1; window = window.1; some = some.1 }
