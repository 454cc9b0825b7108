use Rattle.std.proofs.Common.{length}
use Rattle.followed_stream.proofs.Timing.{Overflows}
use Rattle.followed_stream.proofs.passing.pass_time.Given as goal

abbrev pub invariant-loop-seq : goal.invariant-loop-seq
invariant-loop-seq l = Overflows l.fn.now l.fn.consumer l.consumer l.loose

abbrev pub decreases-loop-seq : goal.decreases-loop-seq
decreases-loop-seq l = length l.consumer.given_up
