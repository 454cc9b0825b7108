use Rattle.std.proofs.Common.{◌∷◌, []}
use Rattle.op_records.specs.Spelling.{number}
use Rattle.op_records.proofs.Written.{at_ok, three_parts}
use Rattle.state_snapshot.specs.Snapshots.{body_in}
use Rattle.state_snapshot.specs.Spelling.{spelled_body}
use Rattle.state_snapshot.proofs.writing.put_live.Goals as goal

pub returns : goal.returns
returns c =
    let text = spelled_body (body_in c.args.table.now c.args.body.now) in
    let parts =
    three_parts c.args.into.now.items c.put_kind.new.into.items c.put_u64.new.into.items c.put_body.new.into.items (33 ∷ []) (number c.args.incarnation) text
    c.in_ok-put_kind.ensures.ok c.in_ok-put_u64.ensures.ok in
    record { ok = at_ok c.put_body.result parts c.put_body.ensures.ok }
