use Rattle.std.proofs.Common.{◌≡◌, drop}
use Rattle.model_laws.specs.SoundTests.{are_between}
use Rattle.log_replay.proofs.starting.ascend.Given as goal

-- from here on the rest has to ascend
abbrev pub invariant-loop-seq : goal.invariant-loop-seq
invariant-loop-seq l = are_between (λ n. n) 1 l.end l.seqs ≡ are_between (λ n. n) l.least l.end (drop l.seq-index l.seqs)
