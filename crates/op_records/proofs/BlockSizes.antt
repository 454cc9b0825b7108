-- How long a message is that a block may have.
use Rattle.std.proofs.Common.{◌≡◌, ◌+◌, ◌≤◌, ◌++◌, length, IsTrue, arith, length-append}
use Rattle.std.proofs.lemmas.Bool.{and_parts}
use Rattle.js_model.specs.declared.stream.Message.{Message}
use Rattle.op_records.specs.Blocks.{is_block_message, spelled_message}
use Rattle.op_records.specs.Spelling.{long}
use Rattle.op_records.proofs.Exact.{le_is}
use Rattle.op_records.proofs.FieldsExact.{subject_size}

pub record Sizes (m : Message) : Type 0 where
  pub subject : length m.subject ≤ 1024
  pub content : length m.headers + length m.payload ≤ 1048576

pub sizes : (m : Message) → IsTrue (is_block_message m) → Sizes m
sizes m is =
    let fits = and_parts _ _ is in
    let header = and_parts _ _ fits.0 in
    let subject = and_parts _ _ header.0 in
    record { subject = subject_size m.subject subject.1; content = le_is (length m.headers + length m.payload) 1048576 fits.1 }

pub spelled_len : (m : Message) → length (spelled_message m) ≡ 30 + (length m.subject + length m.headers + length m.payload)
unfolding spelled_message
spelled_len m = omega (arith, length-append m.subject (long m.headers ++ m.payload), length-append m.headers m.payload)

pub record SpelledSize (m : Message) : Type 0 where
  pub least : 30 ≤ length (spelled_message m)
  pub most : length (spelled_message m) ≤ 1049630

pub spelled_size : (m : Message) → IsTrue (is_block_message m) → SpelledSize m
spelled_size m is =
    let s = sizes m is in
    record { least = omega (arith, spelled_len m); most = omega (arith, spelled_len m, s.subject, s.content) }
