use Rattle.std.proofs.Common.{◌≤◌, IsTrue, take}
use Rattle.std.specs.List.{AllZip, list_all}
use Rattle.op_records.specs.Blocks.{is_block_message}
use Rattle.vol_disk.specs.Moments.{Quiet}
use Rattle.block_reading.specs.Damage.{IsToldBy}
use Rattle.block_reading.proofs.Found.{AreFoundUpTo}
use Rattle.block_reading.proofs.reading.read_all.Given as goal

-- the first messages are read
abbrev pub invariant-loop-one : goal.invariant-loop-one
invariant-loop-one g l = record {
  found : g.V.Vol.told → AreFoundUpTo (g.V.Vol.disk l.fn.vol).seen l.table l.one-index l.messages;
  told : AllZip IsToldBy (take l.one-index l.told) l.messages;
  allowed : IsTrue (list_all is_block_message l.messages);
  quiet : g.V.Vol.told → Quiet (g.V.Vol.disk l.fn.vol) (g.V.Vol.disk l.vol);
  faults : g.V.Vol.faults l.fn.vol ≤ g.V.Vol.faults l.vol;
  refusals : g.V.Vol.refusals l.fn.vol ≤ g.V.Vol.refusals l.vol;
  moments : (g.V.Vol.disk l.fn.vol).moment ≤ (g.V.Vol.disk l.vol).moment;
}
