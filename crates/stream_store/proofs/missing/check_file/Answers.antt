use Rattle.std.proofs.Common.{refl}
use Rattle.vol_disk.proofs.Moments.{quiet, quiet_on}
use Rattle.stream_store.proofs.Untouched.{has_more, no_more}
use Rattle.stream_store.proofs.Faults.{volume_roomy}
use Rattle.stream_store.proofs.missing.check_file.Goals as goal

pub returns-in_err-len-clause-quiet : goal.returns-in_err-len-clause-quiet
returns-in_err-len-clause-quiet g c = λ told.
    let old = g.V.Vol.disk c.args.vol.now in
    quiet_on old old (g.V.Vol.disk c.len.new.self) c.args.file (quiet old (g.met.V.Vol.clocked c.args.vol.now)) (c.len.ensures.does told) (c.len.ensures.seen told)

-- it has more
pub returns-then-len-allowed-clause-fault : goal.returns-then-len-allowed-clause-fault
returns-then-len-allowed-clause-fault g c = λ told.
    (refl, has_more c.args.file (g.V.Vol.disk c.args.vol.now).seen c.in_ok-len.len c.allowed.result (c.in_ok-len.ensures.value told) c.allowed.ensures.value c.told_at.result c.if-len-allowed.true c.told_at.ensures.value)

pub returns-then-len-allowed-clause-quiet : goal.returns-then-len-allowed-clause-quiet
returns-then-len-allowed-clause-quiet g c = λ told.
    let old = g.V.Vol.disk c.args.vol.now in
    quiet_on old old (g.V.Vol.disk c.len.new.self) c.args.file (quiet old (g.met.V.Vol.clocked c.args.vol.now)) (c.len.ensures.does told) (c.len.ensures.seen told)

-- it has no more, and is synced
pub returns-clause-within : goal.returns-clause-within
returns-clause-within g c = λ told.
    no_more c.args.file (g.V.Vol.disk c.args.vol.now).seen c.in_ok-len.len c.allowed.result (c.in_ok-len.ensures.value told) c.allowed.ensures.value c.if-len-allowed.false

pub returns-in_err-sync-clause-quiet : goal.returns-in_err-sync-clause-quiet
returns-in_err-sync-clause-quiet g c = λ told.
    let old = g.V.Vol.disk c.args.vol.now in
    let mid = g.V.Vol.disk c.len.new.self in
    quiet_on old mid (g.V.Vol.disk c.sync.new.self) c.args.file (quiet_on old old mid c.args.file (quiet old (g.met.V.Vol.clocked c.args.vol.now)) (c.len.ensures.does told) (c.len.ensures.seen told)) (c.sync.ensures.does told) (c.sync.ensures.seen told)

pub returns-clause-quiet : goal.returns-clause-quiet
returns-clause-quiet g c = λ told.
    let old = g.V.Vol.disk c.args.vol.now in
    let mid = g.V.Vol.disk c.len.new.self in
    quiet_on old mid (g.V.Vol.disk c.sync.new.self) c.args.file (quiet_on old old mid c.args.file (quiet old (g.met.V.Vol.clocked c.args.vol.now)) (c.len.ensures.does told) (c.len.ensures.seen told)) (c.sync.ensures.does told) (c.sync.ensures.seen told)

-- it is not told for want of room
pub returns-in_err-len-clause-no_room : goal.returns-in_err-len-clause-no_room
returns-in_err-len-clause-no_room g c = volume_roomy c.from_residual.result c.from_residual.ensures.1

pub returns-in_err-sync-clause-no_room : goal.returns-in_err-sync-clause-no_room
returns-in_err-sync-clause-no_room g c = volume_roomy c.from_residual-in_err-sync.result c.from_residual-in_err-sync.ensures.1
