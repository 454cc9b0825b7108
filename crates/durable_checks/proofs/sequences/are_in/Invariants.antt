use Rattle.std.proofs.Common.{◌≡◌, true, take}
use Rattle.std.specs.List.{list_all}
use Rattle.js_base.specs.Bytes.{has}
use Rattle.durable_checks.proofs.sequences.are_in.Given as goal

abbrev pub invariant-loop-seq : goal.invariant-loop-seq
invariant-loop-seq l = list_all (has l.stored) (take l.seq-index l.seqs) ≡ true
