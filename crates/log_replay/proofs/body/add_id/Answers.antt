use Rattle.log_replay.proofs.Ids.{empty_added, other_added, other_fresh}
use Rattle.std.proofs.Common.{Err, refl, ap, arith}
use Rattle.log_replay.proofs.body.add_id.Goals as goal

pub returns-then-is_empty-clause-ok : goal.returns-then-is_empty-clause-ok
returns-then-is_empty-clause-ok c = rw (empty_added c.args.ids.now.ids c.args.id.now c.args.seq c.args.at c.if-is_empty.ensures) refl

pub add-requires : goal.add-requires
add-requires c = record { absent = (other_fresh c.args.ids.now.ids c.args.id.now c.if-is_empty.ensures c.requires.new).absent; latest = c.requires.latest }

pub unreachable-requires : goal.unreachable-requires
unreachable-requires c =
    let full = c.in-Err-Full.ensures.full.0 (ap Err c.in-Err-Full.field-0-is) in
    let room = (other_fresh c.args.ids.now.ids c.args.id.now c.if-is_empty.ensures c.requires.new).room in
    absurd (omega (arith, full, room))

pub returns-in-Ok-clause-ok : goal.returns-in-Ok-clause-ok
returns-in-Ok-clause-ok c = rw (other_added c.args.ids.now.ids c.args.id.now c.args.seq c.args.at c.if-is_empty.ensures) c.in-Ok.ensures.ok
