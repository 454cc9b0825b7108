use Rattle.std.proofs.Common.{sym}
use Rattle.desk_messaging.proofs.Told.{may_pull, pulled, read_both, unpulled}
use Rattle.desk_messaging.proofs.hearing.pull.Goals as goal

pub tell_stream-requires-clause-asked : goal.tell_stream-requires-clause-asked
tell_stream-requires-clause-asked g c =
    let reads = rw c.in-Ok-Some.field-0-is at c.in-Ok-Some.ensures.reading in
    may_pull c.in-Ok-Some.consumer c.args.ask c.args.to.now (rw (sym reads.1.1) at reads.1.0) c.requires.ask c.requires.to

pub returns-in-Ok-Some-clause-made : goal.returns-in-Ok-Some-clause-made
returns-in-Ok-Some-clause-made g c =
    let reads = rw c.in-Ok-Some.field-0-is at c.in-Ok-Some.ensures.reading in
    pulled g.G.Ground.made g.met.G.Ground.made_more c.args.stream.now c.args.consumer.now c.args.ask c.args.to.now c.args.now c.tell_stream.result _ _ (g.met.G.Ground.made_nothing _) (read_both _ _ _ _ reads)
    (rw (reads.0.1, reads.1.1) at c.tell_stream.ensures.made)

pub returns-in-Ok-None-clause-made : goal.returns-in-Ok-None-clause-made
returns-in-Ok-None-clause-made g c =
    unpulled g.G.Ground.made g.met.G.Ground.made_more c.args.stream.now c.args.consumer.now c.args.ask c.args.to.now c.args.now _ (g.met.G.Ground.made_nothing _) (rw c.in-Ok-None.field-0-is at c.in-Ok-None.ensures.reading)
