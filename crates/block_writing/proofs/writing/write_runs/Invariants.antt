use Rattle.std.proofs.Common.{◌≤◌, All, take}
use Rattle.vol_disk.specs.Images.{AreBytes}
use Rattle.block_writing.specs.Writing.{AreAsLong}
use Rattle.block_writing.proofs.Written.{AreWrittenSo}
use Rattle.block_writing.proofs.writing.write_runs.Given as goal

-- the first runs are written
abbrev pub invariant-loop-run : goal.invariant-loop-run
invariant-loop-run g l = record {
  so_far : g.V.Vol.told → AreWrittenSo l.runs l.run-index (g.V.Vol.disk l.fn.vol) (g.V.Vol.disk l.vol);
  as_long : g.V.Vol.told → AreAsLong (g.V.Vol.disk l.fn.vol) (g.V.Vol.disk l.vol);
  bytes : All (λ run. AreBytes run.bytes) (take l.run-index l.runs);
  faults : g.V.Vol.faults l.fn.vol ≤ g.V.Vol.faults l.vol;
  refusals : g.V.Vol.refusals l.fn.vol ≤ g.V.Vol.refusals l.vol;
  moments : (g.V.Vol.disk l.fn.vol).moment ≤ (g.V.Vol.disk l.vol).moment;
}
