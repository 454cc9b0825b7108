use Rattle.block_table.specs.Placings.{place}
use Rattle.block_writing.proofs.Plans.{placed_is, told}
use Rattle.block_writing.proofs.commit.Plan.put.Goals as goal

pub put_at-requires-clause-file : goal.put_at-requires-clause-file
put_at-requires-clause-file c =
    let p = c.args.placing.now in
    let q = c.place.new.self in
    (told c.args.table.now c.message_len.result p c.in-Some.spot q c.requires.block
    (placed_is (place c.args.table.now c.message_len.result p) c.in-Some.spot p q c.in-Some.ensures.spot c.in-Some.ensures.rest)).file

pub returns-clause-block : goal.returns-clause-block
returns-clause-block c =
    let p = c.args.placing.now in
    let q = c.place.new.self in
    (told c.args.table.now c.message_len.result p c.in-Some.spot q c.requires.block
    (placed_is (place c.args.table.now c.message_len.result p) c.in-Some.spot p q c.in-Some.ensures.spot c.in-Some.ensures.rest)).block
