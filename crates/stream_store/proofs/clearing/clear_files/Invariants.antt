use Rattle.std.proofs.Common.{◌≤◌}
use Rattle.stream_store.proofs.Cleared.{AreClearedBelow}
use Rattle.stream_store.proofs.clearing.clear_files.Given as goal

-- the files below this one are cleared
abbrev pub invariant-loop-file : goal.invariant-loop-file
invariant-loop-file g l = record {
  cleared : g.V.Vol.told → AreClearedBelow l.table l.file (g.V.Vol.disk l.fn.vol) (g.V.Vol.disk l.vol);
  faults : g.V.Vol.faults l.fn.vol ≤ g.V.Vol.faults l.vol;
  refusals : g.V.Vol.refusals l.fn.vol ≤ g.V.Vol.refusals l.vol;
  moments : (g.V.Vol.disk l.fn.vol).moment ≤ (g.V.Vol.disk l.vol).moment;
}
