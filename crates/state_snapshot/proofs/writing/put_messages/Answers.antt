use Rattle.std.proofs.Common.{◌≡◌, ◌<◌, ◌^◌, ℕ, ◌++◌, List, length, sym, ap, ◌∙◌, arith}
use Rattle.std.specs.Int.{w32, to_be_bytes}
use Rattle.std.specs.List.{flat_map}
use Rattle.std.proofs.lemmas.Bool.{and_parts}
use Rattle.op_records.proofs.Exact.{lt_is}
use Rattle.op_records.proofs.Written.{at_ok, two_parts}
use Rattle.state_snapshot.specs.Snapshots.{stored_in}
use Rattle.state_snapshot.specs.Spelling.{spelled_message}
use Rattle.state_snapshot.specs.declared.snapshot.StoredMessage.{StoredMessage}
use Rattle.state_snapshot.proofs.Spots.{as_many}
use Rattle.state_snapshot.proofs.writing.put_messages.Goals as goal

pub put_count-requires : goal.put_count-requires
put_count-requires c =
    let all = stored_in c.args.table.now.placed c.args.messages.now in
    let few : length all < 2 ^ 32 = lt_is (length all) (2 ^ 32) (and_parts _ _ c.requires.allowed).0 in
    record { few = omega (arith, few, as_many c.args.table.now.placed c.args.messages.now c.requires.placed) }

pub put_each_message-requires : goal.put_each_message-requires
put_each_message-requires c = record { rising = c.requires.rising; placed = c.requires.placed; allowed = (and_parts _ _ c.requires.allowed).1 }

pub returns : goal.returns
returns c =
    let old = c.args.into.now.items in
    let all : List StoredMessage = stored_in c.args.table.now.placed c.args.messages.now in
    let many = as_many c.args.table.now.placed c.args.messages.now c.requires.placed in
    let count : c.put_count.new.into.items ≡ old ++ to_be_bytes w32 (length all) = c.in_ok-put_count.ensures.ok ∙ ap (λ (n : ℕ). old ++ to_be_bytes w32 n) (sym many) in
    let parts = two_parts old c.put_count.new.into.items c.put_each_message.new.into.items (to_be_bytes w32 (length all)) (flat_map spelled_message all) count in
    record { ok = at_ok c.put_each_message.result parts c.put_each_message.ensures.ok }
