use Rattle.consumer_state.specs.Ending.{entries}
use Rattle.followed_stream.proofs.Ends.{Ends}
use Rattle.followed_stream.proofs.ending.end_acked.Given as goal

abbrev pub invariant-loop-seq : goal.invariant-loop-seq
invariant-loop-seq l = Ends l.ack.seq l.ack.kind l.initial.consumer l.consumer l.some l.loose

abbrev pub decreases-loop-seq : goal.decreases-loop-seq
decreases-loop-seq l = entries l.consumer
