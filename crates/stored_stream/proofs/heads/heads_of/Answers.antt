use Rattle.stored_stream.proofs.Counted.{has_more}
use Rattle.stored_stream.proofs.heads.heads_of.Goals as goal

pub loop-counts-preserved : goal.loop-counts-preserved
loop-counts-preserved c =
    has_more c.args.counted.now c.loop-counts.counts-index _ c.loop-counts.heads c.insert.new.self c.loop-counts-test.true c.loop-counts.invariant c.in_ok-insert.ensures.updates.0
