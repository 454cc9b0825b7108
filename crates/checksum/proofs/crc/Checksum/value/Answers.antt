use Rattle.std.proofs.Common.{◌-◌, ℕ, ap}
use Rattle.checksum.specs.Crc.{finished}
use Rattle.checksum.proofs.crc.Checksum.value.Goals as goal

pub returns : goal.returns
unfolding finished
returns c = record { value = ap (λ (n : ℕ). 4294967295 - n) c.self.view_is }
