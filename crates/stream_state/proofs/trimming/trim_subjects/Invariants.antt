use Rattle.std.proofs.Common.{length}
use Rattle.stream_state.specs.Removing.{HasRoom}
use Rattle.stream_state.proofs.Drops.{Drops}
use Rattle.stream_state.proofs.Thinning.{Thins}
use Rattle.stream_state.proofs.trimming.trim_subjects.Given as goal

abbrev pub invariant-loop-seq : goal.invariant-loop-seq
invariant-loop-seq l = Drops l.initial.gone l.last l.initial.stream l.stream l.gone × Thins l.last l.initial.stream l.stream × HasRoom l.stream l.gone

abbrev pub decreases-loop-seq : goal.decreases-loop-seq
decreases-loop-seq l = length l.stream.messages
