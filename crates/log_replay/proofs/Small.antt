-- A message that can be written is as small as a store wants it.
use Rattle.std.proofs.Common.{◌+◌, ◌≤◌, length, arith}
use Rattle.std.proofs.lemmas.Bool.{and_parts, leb-true}
use Rattle.js_model.specs.declared.stream.Message.{Message}
use Rattle.model_laws.specs.Bounds.{IsWritableMessage}
use Rattle.message_store.specs.Stored.{IsSmall}

pub is_small : (m : Message) → IsWritableMessage m → IsSmall m
is_small m h =
    let spelled = (and_parts _ _ h.subject).0 in
    let bytes = (and_parts _ _ (and_parts _ _ (and_parts _ _ spelled).0).0).0 in
    let subject : length m.subject ≤ 1024 = leb-true (length m.subject) 1024 (and_parts _ _ bytes).1 in
    let rest : length m.headers + length m.payload ≤ 1048576 = h.bytes in
    omega (arith, subject, rest)
