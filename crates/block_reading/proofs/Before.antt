-- What is read after calls that wrote nothing was there before them.
use Rattle.std.proofs.Common.{◌≡◌}
use Rattle.std.proofs.Math.Path.{fun_ext}
use Rattle.vol_disk.specs.Disk.{Disk}
use Rattle.vol_disk.specs.Moments.{Quiet}

pub same_seen : (was mid : Disk) → Quiet was mid → mid.seen ≡ was.seen
same_seen was mid still = fun_ext still.seen
