use Rattle.std.proofs.Common.{length}
use Rattle.stream_state.proofs.Drops.{AllAbove, Drops, HasFirst}
use Rattle.stream_state.proofs.Loops.{Ages}
use Rattle.stream_state.proofs.ageing.drop_old.Given as goal

abbrev pub invariant-loop-seq : goal.invariant-loop-seq
invariant-loop-seq l = Drops l.initial.gone l.last l.initial.stream l.stream l.gone × Ages l.now l.initial.stream l.stream × AllAbove l.last l.stream.messages × HasFirst l.last l.gone

abbrev pub decreases-loop-seq : goal.decreases-loop-seq
decreases-loop-seq l = length l.stream.messages
