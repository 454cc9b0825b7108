use Rattle.vol_disk.proofs.Moments.{quiet, quiet_on, quiet_then}
use Rattle.block_reading.proofs.loading.load.Goals as goal

pub returns-in_err-len-clause-quiet : goal.returns-in_err-len-clause-quiet
returns-in_err-len-clause-quiet g c = λ told.
    let old = g.V.Vol.disk c.args.vol.now in
    quiet_on old old (g.V.Vol.disk c.len.new.self) c.args.file (quiet old (g.met.V.Vol.clocked c.args.vol.now)) (c.len.ensures.does told) (c.len.ensures.seen told)

pub returns-in_err-bytes-clause-quiet : goal.returns-in_err-bytes-clause-quiet
returns-in_err-bytes-clause-quiet g c = λ told.
    let old = g.V.Vol.disk c.args.vol.now in
    let mid = g.V.Vol.disk c.len.new.self in
    quiet_then old mid (g.V.Vol.disk c.read.new.vol)
    (quiet_on old old mid c.args.file (quiet old (g.met.V.Vol.clocked c.args.vol.now)) (c.len.ensures.does told) (c.len.ensures.seen told)) (c.read.ensures.quiet told)

pub returns-clause-quiet : goal.returns-clause-quiet
returns-clause-quiet g c = λ told.
    let old = g.V.Vol.disk c.args.vol.now in
    let mid = g.V.Vol.disk c.len.new.self in
    quiet_then old mid (g.V.Vol.disk c.read.new.vol)
    (quiet_on old old mid c.args.file (quiet old (g.met.V.Vol.clocked c.args.vol.now)) (c.len.ensures.does told) (c.len.ensures.seen told)) (c.read.ensures.quiet told)
