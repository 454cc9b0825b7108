use Rattle.std.proofs.Common.{take}
use Rattle.vol_disk.proofs.Replays.{AreAtRest}
use Rattle.vol_disk.proofs.held.rest.Given as goal

abbrev pub invariant-loop-number : goal.invariant-loop-number
invariant-loop-number l = AreAtRest l.files.entries (take l.number-index l.start)
