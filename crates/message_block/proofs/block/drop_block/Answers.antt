use Rattle.message_block.proofs.Changing.{cut, cut_synced}
use Rattle.message_block.proofs.block.drop_block.Goals as goal

pub returns-in_err-cut-clause-changes : goal.returns-in_err-cut-clause-changes
returns-in_err-cut-clause-changes g c = λ told.
    cut c.args.file (g.V.Vol.disk c.args.vol.now) (g.V.Vol.disk c.cut.new.self) (g.met.V.Vol.clocked c.args.vol.now) (c.cut.ensures.does told)

pub returns-clause-changes : goal.returns-clause-changes
returns-clause-changes g c = λ told.
    cut_synced c.args.file (g.V.Vol.disk c.args.vol.now) (g.V.Vol.disk c.cut.new.self) (g.met.V.Vol.clocked c.args.vol.now) (c.cut.ensures.does told) (g.V.Vol.disk c.sync.new.self) (c.sync.ensures.does told) (c.sync.ensures.seen told)
