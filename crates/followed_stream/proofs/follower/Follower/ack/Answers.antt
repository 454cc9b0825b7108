use Rattle.followed_stream.proofs.Acking.{acks}
use Rattle.followed_stream.proofs.follower.Follower.ack.Goals as goal

pub returns-clause-acked : goal.returns-clause-acked
returns-clause-acked c =
    rw (← c.self.view_is)
    (acks c.law_acknowledged.ensures.law c.law_before_ending.ensures.law c.args.now _ c.args.ack.now.seq c.args.ack.now.kind _ c.ack.new.self c.end_acked-ended.new.consumer _ _ _
    c.in_ok-told.ensures.reply c.end_acked-ended.ensures.some c.changed_due-due.ensures.value c.in_ok-told.ensures.outs c.in_ok-told.ensures.ok c.end_acked-ended.ensures.value c.end_acked-ended.ensures.loose)
