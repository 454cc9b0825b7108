use Rattle.std.proofs.Common.{take}
use Rattle.stored_stream.proofs.Counted.{HasFirsts}
use Rattle.stored_stream.proofs.heads.heads_of.Given as goal

abbrev pub invariant-loop-counts : goal.invariant-loop-counts
invariant-loop-counts l = HasFirsts (take l.counts-index l.counted) l.heads
