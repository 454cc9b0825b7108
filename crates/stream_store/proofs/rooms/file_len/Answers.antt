use Rattle.vol_disk.proofs.Moments.{quiet, quiet_on}
use Rattle.stream_store.proofs.rooms.file_len.Goals as goal

pub returns-clause-quiet : goal.returns-clause-quiet
returns-clause-quiet g c = λ told.
    let old = g.V.Vol.disk c.args.vol.now in
    quiet_on old old (g.V.Vol.disk c.len.new.self) c.args.file (quiet old (g.met.V.Vol.clocked c.args.vol.now)) (c.len.ensures.does told) (c.len.ensures.seen told)
