use Rattle.std.proofs.Common.{take}
use Rattle.stream_state.specs.Removing.{HasRoom}
use Rattle.stream_state.proofs.Drops.{Drops, Waits}
use Rattle.stream_state.proofs.Loops.{Removes}
use Rattle.stream_state.proofs.removing.remove_all.Given as goal

abbrev pub invariant-loop-seq : goal.invariant-loop-seq
invariant-loop-seq l =
    Drops l.initial.gone l.last l.initial.stream l.stream l.gone × Removes (take l.seq-index l.sequences) l.initial.stream l.stream × Waits l.seq-index l.last l.sequences l.stream
    × HasRoom l.stream l.gone
