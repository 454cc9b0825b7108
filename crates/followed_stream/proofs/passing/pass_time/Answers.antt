use Rattle.followed_stream.proofs.Timing.{overflow_fewer, overflows_all, overflows_current, overflows_more, overflows_none}
use Rattle.followed_stream.proofs.passing.pass_time.Goals as goal

pub loop-seq-init : goal.loop-seq-init
loop-seq-init c = overflows_none c.law_passed.ensures.law c.args.now c.args.consumer.now c.advance.new.self _ c.advance.ensures.value c.advance.ensures.unspent

pub loop-seq-preserved : goal.loop-seq-preserved
loop-seq-preserved c =
    rw c.join-loose.ensures.value
    (overflows_more c.law_overflow.ensures.law c.args.now c.in-Some.seq c.args.consumer.now c.loop-seq.consumer c.overflow.new.self c.loop-seq.loose c.one.result c.loop-seq.invariant c.in-Some.ensures.value c.overflow.ensures.left c.one.ensures.value)

pub loop-seq-smaller : goal.loop-seq-smaller
loop-seq-smaller c = rw c.overflow.ensures.left (overflow_fewer c.loop-seq.consumer c.in-Some.seq c.in-Some.ensures.value)

pub returns-clause-value : goal.returns-clause-value
returns-clause-value c = (overflows_all c.law_overflow.ensures.law c.args.now c.args.consumer.now c.loop-seq.consumer c.overflow.new.self c.loop-seq.loose c.loop-seq.invariant c.in_default.ensures.value c.overflow.ensures.left).0

pub returns-clause-loose : goal.returns-clause-loose
returns-clause-loose c = (overflows_all c.law_overflow.ensures.law c.args.now c.args.consumer.now c.loop-seq.consumer c.overflow.new.self c.loop-seq.loose c.loop-seq.invariant c.in_default.ensures.value c.overflow.ensures.left).1

pub returns-clause-current : goal.returns-clause-current
returns-clause-current c = overflows_current c.args.now c.args.consumer.now c.loop-seq.consumer c.overflow.new.self c.loop-seq.loose c.loop-seq.invariant c.overflow.ensures.left
