use Rattle.std.proofs.Common.{◌≡◌, true, take, not}
use Rattle.std.specs.List.{list_all}
use Rattle.js_base.specs.Bytes.{has}
use Rattle.durable_checks.proofs.sequences.are_apart.Given as goal

abbrev pub invariant-loop-seq : goal.invariant-loop-seq
invariant-loop-seq l = list_all (λ n. not (has l.other n)) (take l.seq-index l.one) ≡ true
