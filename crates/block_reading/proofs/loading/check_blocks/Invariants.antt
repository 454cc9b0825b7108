use Rattle.std.proofs.Common.{◌≤◌, All, take}
use Rattle.vol_disk.specs.Moments.{Quiet}
use Rattle.block_reading.specs.Standing.{IsWhole}
use Rattle.block_reading.proofs.loading.check_blocks.Given as goal

-- the first blocks are whole
abbrev pub invariant-loop-block : goal.invariant-loop-block
invariant-loop-block g l = record {
  whole : g.V.Vol.told → All (IsWhole (g.V.Vol.disk l.fn.vol).seen l.last) (take l.block-index l.table.older);
  quiet : g.V.Vol.told → Quiet (g.V.Vol.disk l.fn.vol) (g.V.Vol.disk l.vol);
  faults : g.V.Vol.faults l.fn.vol ≤ g.V.Vol.faults l.vol;
  refusals : g.V.Vol.refusals l.fn.vol ≤ g.V.Vol.refusals l.vol;
  moments : (g.V.Vol.disk l.fn.vol).moment ≤ (g.V.Vol.disk l.vol).moment;
}
