use Rattle.std.proofs.Common.{◌≡◌, not, length}
use Rattle.std.specs.Prelude.{filter}
use Rattle.pending_table.proofs.Changed.{is_in}
use Rattle.pending_table.proofs.table.PendingTable.forget.Given as goal

abbrev pub invariant-loop-seq : goal.invariant-loop-seq
invariant-loop-seq l = filter (λ p. not (is_in l.low l.high p)) l.self ≡ filter (λ p. not (is_in l.low l.high p)) l.initial.self

abbrev pub decreases-loop-seq : goal.decreases-loop-seq
decreases-loop-seq l = length l.self
