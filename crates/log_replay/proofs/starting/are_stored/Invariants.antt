use Rattle.std.proofs.Common.{◌≡◌, true, take}
use Rattle.model_laws.specs.SoundTests.{are_stored}
use Rattle.log_replay.proofs.starting.are_stored.Given as goal

abbrev pub invariant-loop-seq : goal.invariant-loop-seq
invariant-loop-seq l = are_stored l.messages (take l.seq-index l.seqs) ≡ true
