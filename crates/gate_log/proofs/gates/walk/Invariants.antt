use Rattle.std.proofs.Common.{◌≡◌, ◌-◌, ◌<◌, ◌≤◌, List, take}
use Rattle.vol_disk.specs.Moments.{Quiet}
use Rattle.js_base.specs.Bytes.{Bytes}
use Rattle.gate_log.specs.Batches.{end_of}
use Rattle.gate_log.specs.Walking.{IsWalked}
use Rattle.gate_log.proofs.gates.walk.Given as goal

abbrev pub invariant-loop-next : goal.invariant-loop-next
invariant-loop-next g l = record {
  quiet : g.V.Vol.told → Quiet (g.V.Vol.disk l.fn.vol) (g.V.Vol.disk l.vol);
  walked : g.V.Vol.told → (batches : List Bytes) × IsWalked ((g.V.Vol.disk l.fn.vol).seen l.file) batches l.ends.last × (l.ends.first ≡ end_of (take 1 batches));
  faults : g.V.Vol.faults l.fn.vol ≤ g.V.Vol.faults l.vol;
  refusals : g.V.Vol.refusals l.fn.vol ≤ g.V.Vol.refusals l.vol;
  moments : (g.V.Vol.disk l.fn.vol).moment ≤ (g.V.Vol.disk l.vol).moment;
  inside : l.ends.last < l.len;
}

abbrev pub decreases-loop-next : goal.decreases-loop-next
decreases-loop-next g l = l.len - l.ends.last
