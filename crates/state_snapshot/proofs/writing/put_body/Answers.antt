use Rattle.std.proofs.lemmas.Bool.{and_parts}
use Rattle.op_records.specs.Spelling.{spelled_list}
use Rattle.op_records.proofs.Written.{at_ok, four_parts}
use Rattle.state_snapshot.specs.Snapshots.{body_in}
use Rattle.state_snapshot.specs.Spelling.{spelled_body, spelled_consumer, spelled_head, spelled_id, spelled_stored}
use Rattle.state_snapshot.proofs.writing.put_body.Goals as goal

pub put_head-requires : goal.put_head-requires
put_head-requires c = record { allowed = (and_parts _ _ (and_parts _ _ (and_parts _ _ c.requires.allowed).0).0).0 }

pub put_stored-requires : goal.put_stored-requires
put_stored-requires c = record { placed = c.requires.placed; allowed = (and_parts _ _ (and_parts _ _ (and_parts _ _ c.requires.allowed).0).0).1 }

pub put_list-requires : goal.put_list-requires
put_list-requires c = record { allowed = rw c.as_slice.ensures (and_parts _ _ (and_parts _ _ c.requires.allowed).0).1 }

pub put_list-requires-2 : goal.put_list-requires-2
put_list-requires-2 c = record { allowed = rw c.as_slice-2.ensures (and_parts _ _ c.requires.allowed).1 }

pub returns : goal.returns
unfolding spelled_body
returns c =
    let b = c.args.body.now in
    let parts =
    four_parts c.args.into.now.items c.put_head.new.into.items c.put_stored.new.into.items c.put_list.new.into.items c.put_list-2.new.into.items
    (spelled_head b.made b.moment b.last b.config) (spelled_stored (body_in c.args.table.now b)) (spelled_list spelled_id b.ids) (spelled_list spelled_consumer b.consumers)
    c.in_ok-put_head.ensures.ok c.in_ok-put_stored.ensures.ok (rw c.as_slice.ensures at c.in_ok-put_list.ensures.ok) in
    record { ok = at_ok c.put_list-2.result parts (rw c.as_slice-2.ensures at c.put_list-2.ensures.ok) }
