use Rattle.std.proofs.Common.{◌≡◌, ◌≤◌, ℕ, true, take}
use Rattle.vol_disk.specs.Images.{IsDurable}
use Rattle.vol_disk.specs.Moments.{Quiet}
use Rattle.block_table.specs.Blocks.{is_among}
use Rattle.stream_store.proofs.reading.sync_all.Given as goal

-- the first blocks are synced
abbrev pub invariant-loop-block : goal.invariant-loop-block
invariant-loop-block g l = record {
  synced : g.V.Vol.told → (file : ℕ) → is_among (take l.block-index l.blocks) file ≡ true → IsDurable (g.V.Vol.disk l.vol) file;
  quiet : g.V.Vol.told → Quiet (g.V.Vol.disk l.fn.vol) (g.V.Vol.disk l.vol);
  faults : g.V.Vol.faults l.fn.vol ≤ g.V.Vol.faults l.vol;
  refusals : g.V.Vol.refusals l.fn.vol ≤ g.V.Vol.refusals l.vol;
  moments : (g.V.Vol.disk l.fn.vol).moment ≤ (g.V.Vol.disk l.vol).moment;
}
