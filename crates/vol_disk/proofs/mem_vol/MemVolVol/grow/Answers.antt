use Rattle.vol_disk.proofs.Volumes.{seen_grow, torn_grow, does_grow}
use Rattle.vol_disk.proofs.mem_vol.MemVolVol.grow.Goals as goal

pub returns-clause-grown : goal.returns-clause-grown
returns-clause-grown c =
    seen_grow c.args.self.now c.room.new.self c.room.result c.args.file c.args.count c.room.ensures.call

pub returns-clause-torn : goal.returns-clause-torn
returns-clause-torn c =
    torn_grow c.args.self.now c.room.new.self c.room.result c.args.file c.args.count c.room.ensures.call

pub returns-clause-does : goal.returns-clause-does
returns-clause-does c =
    does_grow c.args.self.now c.room.new.self c.room.result c.args.file c.args.count c.room.ensures.call
