use Rattle.std.proofs.Common.{◌≤◌, ◌-◌, ◌^◌}
use Rattle.vol_disk.specs.Moments.{Quiet}
use Rattle.durable_checks.specs.Storable.{IsStorable}
use Rattle.log_records.specs.Holding.{made_in, IsSoundMade}
use Rattle.log_records.proofs.Reaching.{Reaches}
use Rattle.log_records.proofs.log.read_later.Given as goal

-- the batches up to this gate are added
abbrev pub invariant-loop-made : goal.invariant-loop-made
invariant-loop-made g l = record {
  quiet : g.V.Vol.told → Quiet (g.V.Vol.disk l.fn.vol) (g.V.Vol.disk l.vol);
  reaches : g.V.Vol.told → Reaches l.log l.gate (made_in l.made) l.last (g.V.Vol.disk l.vol);
  sound : IsSoundMade l.made;
  storable : IsStorable (made_in l.made).durable;
  faults : g.V.Vol.faults l.fn.vol ≤ g.V.Vol.faults l.vol;
  refusals : g.V.Vol.refusals l.fn.vol ≤ g.V.Vol.refusals l.vol;
  moments : (g.V.Vol.disk l.fn.vol).moment ≤ (g.V.Vol.disk l.vol).moment;
}

abbrev pub decreases-loop-made : goal.decreases-loop-made
decreases-loop-made g l = 2 ^ 64 - l.gate
