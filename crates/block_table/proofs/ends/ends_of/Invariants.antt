use Rattle.std.proofs.Common.{take}
use Rattle.block_table.specs.Restoring.{AreEnds}
use Rattle.block_table.proofs.ends.ends_of.Given as goal

-- of those so far
abbrev pub invariant-loop-block : goal.invariant-loop-block
invariant-loop-block l = AreEnds (take l.block-index l.older) l.ends
