use Rattle.std.specs.Option.{option_to_list}
use Rattle.std.proofs.lemmas.Bool.{and_parts}
use Rattle.op_records.specs.Spelling.{spelled_list}
use Rattle.op_records.proofs.Written.{at_ok, three_parts}
use Rattle.state_snapshot.specs.Snapshots.{body_in}
use Rattle.state_snapshot.specs.Spelling.{spelled_block, spelled_message}
use Rattle.state_snapshot.specs.declared.snapshot.SnapshotBody.{SnapshotBody}
use Rattle.state_snapshot.proofs.writing.put_stored.Goals as goal

pub put_messages-requires : goal.put_messages-requires
put_messages-requires c = record {
  rising = c.older-older.ensures.table.rising;
  placed = rw c.as_slice.ensures c.requires.placed;
  allowed = rw c.as_slice.ensures (and_parts _ _ (and_parts _ _ c.requires.allowed).0).0;
}

pub put_list-requires : goal.put_list-requires
put_list-requires c = record { allowed = rw c.older-older.ensures.value (and_parts _ _ (and_parts _ _ c.requires.allowed).0).1 }

pub put_writing-requires : goal.put_writing-requires
put_writing-requires c = record { allowed = rw c.writing.ensures.value (and_parts _ _ c.requires.allowed).1 }

pub returns : goal.returns
returns c =
    let b : SnapshotBody = body_in c.args.table.now c.args.body.now in
    let messages = rw c.as_slice.ensures at c.in_ok-put_messages.ensures.ok in
    let older = rw c.older-older.ensures.value at c.in_ok-put_list.ensures.ok in
    let parts =
    three_parts c.args.into.now.items c.put_messages.new.into.items c.put_list.new.into.items c.put_writing.new.into.items
    (spelled_list spelled_message b.messages) (spelled_list spelled_block b.older) (spelled_list spelled_block (option_to_list b.writing)) messages older in
    record { ok = at_ok c.put_writing.result parts (rw c.writing.ensures.value at c.put_writing.ensures.ok) }
