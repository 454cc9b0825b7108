use Rattle.state_snapshot.proofs.Puts.{may_at, next_put}
use Rattle.state_snapshot.proofs.entry.put_each.Goals as goal

pub put-requires : goal.put-requires
put-requires g c = record { allowed = may_at g.T.Entry.may c.args.entries.now c.loop-entry.entry-index c.entry-item.result c.requires.allowed c.loop-entry-test.true c.entry-item.is }

pub loop-entry-preserved : goal.loop-entry-preserved
loop-entry-preserved g c =
    next_put g.T.Entry.spelling c.args.into.now.items c.loop-entry.into.items c.put.new.into.items c.args.entries.now c.loop-entry.entry-index c.entry-item.result c.loop-entry-test.true c.entry-item.is c.loop-entry.invariant c.in_ok-put.ensures.ok
