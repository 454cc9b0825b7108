use Rattle.std.proofs.Common.{◌≡◌, ◌-◌, ◌≤◌, length}
use Rattle.vol_disk.specs.Growing.{ExtendsAt, IsExtended}
use Rattle.vol_disk.proofs.room.grow_to.Given as goal

abbrev pub invariant-loop-at : goal.invariant-loop-at
invariant-loop-at g l = record {
  len : g.V.Vol.told → l.at ≡ length ((g.V.Vol.disk l.vol).seen l.file);
  seen : g.V.Vol.told → IsExtended ((g.V.Vol.disk l.fn.vol).seen l.file) ((g.V.Vol.disk l.vol).seen l.file);
  extends : g.V.Vol.told → ExtendsAt l.file l.end (g.V.Vol.disk l.fn.vol) (g.V.Vol.disk l.vol);
  faults : g.V.Vol.faults l.fn.vol ≤ g.V.Vol.faults l.vol;
  refusals : g.V.Vol.refusals l.fn.vol ≤ g.V.Vol.refusals l.vol;
  moments : (g.V.Vol.disk l.fn.vol).moment ≤ (g.V.Vol.disk l.vol).moment;
}

abbrev pub decreases-loop-at : goal.decreases-loop-at
decreases-loop-at g l = l.end - l.at
