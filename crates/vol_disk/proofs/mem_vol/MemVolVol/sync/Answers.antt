use Rattle.vol_disk.specs.declared.call.Deed.TheVariants.{Sync}
use Rattle.vol_disk.proofs.Volumes.{kept_sync, durable_sync, does_of}
use Rattle.vol_disk.proofs.mem_vol.MemVolVol.sync.Goals as goal

pub returns-clause-durable : goal.returns-clause-durable
returns-clause-durable c =
    durable_sync c.args.self.now c.call.new.self c.call.result c.args.file c.call.ensures.call

pub returns-clause-seen : goal.returns-clause-seen
returns-clause-seen c =
    kept_sync c.args.self.now c.call.new.self c.call.result c.args.file c.call.ensures.call

pub returns-clause-does : goal.returns-clause-does
returns-clause-does c =
    does_of c.args.self.now c.call.new.self c.call.result c.args.file Sync c.call.ensures.call tt
