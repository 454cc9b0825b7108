use Rattle.std.proofs.Common.{◌≤◌}
use Rattle.stream_store.proofs.Untouched.{AreWithinBelow}
use Rattle.stream_store.proofs.missing.check_untouched.Given as goal

-- the files below this one have no more than a first start may leave
abbrev pub invariant-loop-file : goal.invariant-loop-file
invariant-loop-file g l = record {
  within : g.V.Vol.told → AreWithinBelow l.file (g.V.Vol.disk l.initial.vol) (g.V.Vol.disk l.vol);
  faults : g.V.Vol.faults l.fn.vol ≤ g.V.Vol.faults l.vol;
  refusals : g.V.Vol.refusals l.fn.vol ≤ g.V.Vol.refusals l.vol;
  moments : (g.V.Vol.disk l.fn.vol).moment ≤ (g.V.Vol.disk l.vol).moment;
}
