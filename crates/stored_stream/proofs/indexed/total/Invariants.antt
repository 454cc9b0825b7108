use Rattle.std.proofs.Common.{◌≡◌, take}
use Rattle.std.specs.Prelude.{sum_by}
use Rattle.stream_view.specs.declared.counts.Counts.{Counts}
use Rattle.stored_stream.proofs.indexed.total.Given as goal

abbrev pub invariant-loop-counts : goal.invariant-loop-counts
invariant-loop-counts l = l.total ≡ sum_by (λ (c : Counts). c.count) (take l.counts-index l.counted)
