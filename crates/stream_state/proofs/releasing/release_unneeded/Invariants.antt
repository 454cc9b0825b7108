use Rattle.std.proofs.Common.{length}
use Rattle.std.specs.Prelude.{unwrap_or}
use Rattle.stream_state.specs.Removing.{HasRoom}
use Rattle.stream_state.proofs.Drops.{Drops}
use Rattle.stream_state.proofs.Unkept.{Releases}
use Rattle.stream_state.proofs.releasing.release_unneeded.Given as goal

abbrev pub invariant-loop-seq : goal.invariant-loop-seq
invariant-loop-seq l = Drops l.initial.gone l.last l.initial.stream l.stream l.gone × Releases (unwrap_or l.last l.loose.first) l.loose.last l.initial.stream l.stream × HasRoom l.stream l.gone

abbrev pub decreases-loop-seq : goal.decreases-loop-seq
decreases-loop-seq l = length l.stream.messages
