use Rattle.std.proofs.Common.{refl}
use Rattle.checksum.specs.Crc.{started}
use Rattle.checksum.proofs.crc.Checksum.new.Goals as goal

pub returns : goal.returns
unfolding started
returns c = record { value = refl }
