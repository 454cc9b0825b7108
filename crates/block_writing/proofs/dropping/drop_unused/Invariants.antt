use Rattle.std.proofs.Common.{◌≤◌, take}
use Rattle.block_writing.specs.Dropping.{AreEmptied, ChangesUnused}
use Rattle.block_writing.proofs.dropping.drop_unused.Given as goal

-- no file was touched but those of unused blocks, and those of the blocks so far are emptied
abbrev pub invariant-loop-block : goal.invariant-loop-block
invariant-loop-block g l = record {
  changes : g.V.Vol.told → ChangesUnused l.table l.blocks (g.V.Vol.disk l.fn.vol) (g.V.Vol.disk l.vol);
  emptied : g.V.Vol.told → AreEmptied l.table (take l.block-index l.blocks) (g.V.Vol.disk l.vol);
  faults : g.V.Vol.faults l.fn.vol ≤ g.V.Vol.faults l.vol;
  refusals : g.V.Vol.refusals l.fn.vol ≤ g.V.Vol.refusals l.vol;
  moments : (g.V.Vol.disk l.fn.vol).moment ≤ (g.V.Vol.disk l.vol).moment;
}
