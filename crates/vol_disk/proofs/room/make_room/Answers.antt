use Rattle.vol_disk.proofs.Growing.{extends_none, extends_synced}
use Rattle.vol_disk.proofs.room.make_room.Goals as goal

pub returns-then-end-len-clause-extends : goal.returns-then-end-len-clause-extends
returns-then-end-len-clause-extends g c = λ told. extends_none c.args.file c.args.end (g.V.Vol.disk c.args.vol.now) (g.met.V.Vol.clocked c.args.vol.now)

pub returns-in_err-sync-clause-extends : goal.returns-in_err-sync-clause-extends
returns-in_err-sync-clause-extends g c = λ told.
    extends_synced c.args.file c.args.end (g.V.Vol.disk c.args.vol.now) (g.V.Vol.disk c.grow_to.new.vol) (g.V.Vol.disk c.sync.new.self) (c.grow_to.ensures.extends told) (c.sync.ensures.does told)

pub returns-clause-extends : goal.returns-clause-extends
returns-clause-extends g c = λ told.
    extends_synced c.args.file c.args.end (g.V.Vol.disk c.args.vol.now) (g.V.Vol.disk c.grow_to.new.vol) (g.V.Vol.disk c.sync.new.self) (c.grow_to.ensures.extends told) (c.sync.ensures.does told)
