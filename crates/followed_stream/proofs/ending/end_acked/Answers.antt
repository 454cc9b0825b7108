use Rattle.followed_stream.proofs.Ends.{ends_all, ends_more, ends_none}
use Rattle.followed_stream.proofs.ending.end_acked.Goals as goal

pub loop-seq-init : goal.loop-seq-init
loop-seq-init c = ends_none c.args.ack.now.seq c.args.ack.now.kind c.args.consumer.now _

pub loop-seq-preserved : goal.loop-seq-preserved
loop-seq-preserved c =
    rw c.join-loose.ensures.value
    (ends_more c.law_ends_one.ensures.law c.args.ack.now.seq c.args.ack.now.kind c.in-Some.seq _ c.loop-seq.consumer c.end_next.new.self c.loop-seq.some c.loop-seq.loose c.one.result c.loop-seq.invariant c.in-Some.ensures.value c.one.ensures.value)

pub loop-seq-smaller : goal.loop-seq-smaller
loop-seq-smaller c = c.in-Some.ensures.value.fewer

pub returns : goal.returns
returns c =
    let w = ends_all c.args.ack.now.seq c.args.ack.now.kind _ c.loop-seq.consumer c.end_next.new.self c.loop-seq.some c.loop-seq.loose c.loop-seq.invariant c.in_default.ensures.value in
    record { value = w.value; some = w.some_is; loose = w.needed }
