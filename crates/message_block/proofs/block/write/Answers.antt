use Rattle.std.proofs.Common.{length, ap, ◌∙◌, arith}
use Rattle.message_block.proofs.Changing.{tore, written_long, wrote, synced}
use Rattle.message_block.proofs.block.write.Goals as goal

pub returns-in_err-write_at-clause-changes : goal.returns-in_err-write_at-clause-changes
returns-in_err-write_at-clause-changes g c = λ told.
    let old = g.V.Vol.disk c.args.vol.now in
    tore c.args.file c.args.at (length c.args.bytes.now) old (g.V.Vol.disk c.write_at.new.self) (g.met.V.Vol.clocked c.args.vol.now) (c.write_at.ensures.does told) (c.in_err-write_at.ensures.torn told)

pub returns-in_err-sync-clause-changes : goal.returns-in_err-sync-clause-changes
returns-in_err-sync-clause-changes g c = λ told.
    let old = g.V.Vol.disk c.args.vol.now in
    let mid = g.V.Vol.disk c.write_at.new.self in
    synced c.args.file c.args.at old mid (g.V.Vol.disk c.sync.new.self)
    (wrote c.args.file c.args.at c.args.bytes.now old mid (omega (arith, c.requires.within told)) (g.met.V.Vol.clocked c.args.vol.now) (c.write_at.ensures.does told) (c.in_ok-write_at.ensures.seen told))
    (c.sync.ensures.does told) (c.sync.ensures.seen told)

pub returns-clause-changes : goal.returns-clause-changes
returns-clause-changes g c = λ told.
    let old = g.V.Vol.disk c.args.vol.now in
    let mid = g.V.Vol.disk c.write_at.new.self in
    synced c.args.file c.args.at old mid (g.V.Vol.disk c.sync.new.self)
    (wrote c.args.file c.args.at c.args.bytes.now old mid (omega (arith, c.requires.within told)) (g.met.V.Vol.clocked c.args.vol.now) (c.write_at.ensures.does told) (c.in_ok-write_at.ensures.seen told))
    (c.sync.ensures.does told) (c.sync.ensures.seen told)

pub returns-clause-as_long : goal.returns-clause-as_long
returns-clause-as_long g c = λ told.
    ap length (c.sync.ensures.seen told ∙ c.in_ok-write_at.ensures.seen told) ∙ written_long c.args.at c.args.bytes.now ((g.V.Vol.disk c.args.vol.now).seen c.args.file) (c.requires.within told)
