use Rattle.std.proofs.Common.{subst}
use Rattle.vol_disk.specs.Replay.{bytes_in}
use Rattle.vol_disk.specs.MemDisk.{AreLeft}
use Rattle.vol_disk.specs.MemVol.{VolState}
use Rattle.vol_disk.proofs.Volumes.{image_of, durable_rest}
use Rattle.vol_disk.proofs.mem_vol.MemVol.image.Goals as goal

pub returns-clause-image : goal.returns-clause-image
returns-clause-image c =
    let held = c.in_ok-held.held in
    let left = subst (λ (vol : VolState). AreLeft vol.start vol.calls (bytes_in held.start)) c.self.view_is c.in_ok-held.ensures.image in
    image_of c.args.self.now held.start held.calls left c.in_ok-held.ensures.fresh

pub returns-clause-durable : goal.returns-clause-durable
returns-clause-durable c = durable_rest c.in_ok-held.held.start c.in_ok-held.held.calls c.in_ok-held.ensures.fresh
