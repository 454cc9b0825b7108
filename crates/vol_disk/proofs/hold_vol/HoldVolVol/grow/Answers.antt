use Rattle.std.proofs.Common.{length, subst}
use Rattle.vol_disk.specs.Does.{Does}
use Rattle.vol_disk.specs.MemVol.{VolState, disk_of, file_of}
use Rattle.vol_disk.specs.Steps.{Torn}
use Rattle.vol_disk.proofs.hold_vol.HoldVolVol.grow.Goals as goal

pub returns-clause-does : goal.returns-clause-does
returns-clause-does c =
    subst (λ (v : VolState). Does c.args.file (Torn (length (file_of v c.args.file).bytes) c.args.count) (disk_of v) (disk_of c.grow.new.self)) c.self.view_is c.grow.ensures.does
