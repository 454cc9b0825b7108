use Rattle.std.proofs.Common.{◌≡◌, take}
use Rattle.block_table.specs.Tables.{AreRising}
use Rattle.block_table.proofs.messages.Messages.of.Given as goal

-- those so far
abbrev pub invariant-loop-one : goal.invariant-loop-one
invariant-loop-one l = record {
  added : l.messages ≡ take l.one-index l.placed;
  rising : AreRising (take l.one-index l.placed);
}
