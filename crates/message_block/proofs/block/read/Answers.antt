use Rattle.vol_disk.proofs.Moments.{quiet, quiet_on}
use Rattle.message_block.proofs.block.read.Goals as goal

pub returns-in_err-read_at-clause-quiet : goal.returns-in_err-read_at-clause-quiet
returns-in_err-read_at-clause-quiet g c = λ told.
    let old = g.V.Vol.disk c.args.vol.now in
    quiet_on old old (g.V.Vol.disk c.read_at.new.self) c.args.spot.file (quiet old (g.met.V.Vol.clocked c.args.vol.now)) (c.read_at.ensures.does told) (c.read_at.ensures.seen told)

pub returns-in-Ok-clause-quiet : goal.returns-in-Ok-clause-quiet
returns-in-Ok-clause-quiet g c = λ told.
    let old = g.V.Vol.disk c.args.vol.now in
    quiet_on old old (g.V.Vol.disk c.read_at.new.self) c.args.spot.file (quiet old (g.met.V.Vol.clocked c.args.vol.now)) (c.read_at.ensures.does told) (c.read_at.ensures.seen told)

pub returns-clause-quiet : goal.returns-clause-quiet
returns-clause-quiet g c = λ told.
    let old = g.V.Vol.disk c.args.vol.now in
    quiet_on old old (g.V.Vol.disk c.read_at.new.self) c.args.spot.file (quiet old (g.met.V.Vol.clocked c.args.vol.now)) (c.read_at.ensures.does told) (c.read_at.ensures.seen told)
