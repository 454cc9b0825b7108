use Rattle.vol_disk.specs.MemVol.{disk_of}
use Rattle.gate_log.specs.Reading.{IsSomeGate}
use Rattle.log_rows.proofs.telling.batches_text.Given as goal

abbrev pub invariant-loop : goal.invariant-loop
invariant-loop l = IsSomeGate l.log l.at (disk_of l.vol)
