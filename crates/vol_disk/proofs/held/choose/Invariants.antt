use Rattle.std.proofs.Common.{map}
use Rattle.std.specs.Map.Iter.{deref_pair}
use Rattle.vol_disk.specs.Held.{ArePicked}
use Rattle.vol_disk.proofs.held.choose.Given as goal

abbrev pub invariant-loop-number : goal.invariant-loop-number
invariant-loop-number l = ArePicked l.pick (map deref_pair l.yielded) l.start
