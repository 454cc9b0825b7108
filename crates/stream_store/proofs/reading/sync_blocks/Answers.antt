use Rattle.std.proofs.Common.{◌∙◌, List, ap, sym}
use Rattle.std.proofs.lemmas.Result.{on_ok_weaker}
use Rattle.vol_disk.proofs.Moments.{quiet_on}
use Rattle.block_table.specs.declared.block.Block.{Block}
use Rattle.block_table.specs.Blocks.{is_among}
use Rattle.stream_store.proofs.Synced.{synced_none_written, synced_written}
use Rattle.stream_store.proofs.reading.sync_blocks.Goals as goal

pub returns-in-Some-clause-synced : goal.returns-in-Some-clause-synced
returns-in-Some-clause-synced g c = λ told.
    on_ok_weaker c.sync.result
    (synced_written c.args.table.now c.in-Some.block (g.V.Vol.disk c.sync_all.new.vol) (g.V.Vol.disk c.sync.new.self) (sym c.in-Some.ensures.value) (g.met.V.Vol.clocked c.sync_all.new.vol)
    (λ file has. c.in_ok-sync_all.ensures.synced told file (ap (λ (ks : List Block). is_among ks file) c.older.ensures.value ∙ has)) (c.sync.ensures.does told) (c.sync.ensures.seen told))
    (c.sync.ensures.durable told)

pub returns-in-Some-clause-quiet : goal.returns-in-Some-clause-quiet
returns-in-Some-clause-quiet g c = λ told.
    quiet_on (g.V.Vol.disk c.args.vol.now) (g.V.Vol.disk c.sync_all.new.vol) (g.V.Vol.disk c.sync.new.self) c.in-Some.block.file (c.sync_all.ensures.quiet told) (c.sync.ensures.does told) (c.sync.ensures.seen told)

pub returns-in-None-clause-synced : goal.returns-in-None-clause-synced
returns-in-None-clause-synced g c = λ told. synced_none_written c.args.table.now (g.V.Vol.disk c.sync_all.new.vol) (sym c.in-None.ensures.value) (λ file has. c.in_ok-sync_all.ensures.synced told file (ap (λ (ks : List Block). is_among ks file) c.older.ensures.value ∙ has))
