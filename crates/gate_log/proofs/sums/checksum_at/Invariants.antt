use Rattle.std.proofs.Common.{◌≡◌, ◌-◌, ◌≤◌, take, drop}
use Rattle.vol_disk.specs.Moments.{Quiet}
use Rattle.checksum.specs.Crc.{added, started}
use Rattle.gate_log.proofs.sums.checksum_at.Given as goal

-- the first bytes are added
abbrev pub invariant-loop-done : goal.invariant-loop-done
invariant-loop-done g l = record {
  sum : g.V.Vol.told → l.sum ≡ added started (take l.done (drop l.at ((g.V.Vol.disk l.fn.vol).seen l.file)));
  quiet : g.V.Vol.told → Quiet (g.V.Vol.disk l.fn.vol) (g.V.Vol.disk l.vol);
  faults : g.V.Vol.faults l.fn.vol ≤ g.V.Vol.faults l.vol;
  refusals : g.V.Vol.refusals l.fn.vol ≤ g.V.Vol.refusals l.vol;
  moments : (g.V.Vol.disk l.fn.vol).moment ≤ (g.V.Vol.disk l.vol).moment;
  inside : l.done ≤ l.count;
}

abbrev pub decreases-loop-done : goal.decreases-loop-done
decreases-loop-done g l = l.count - l.done
