use Rattle.vol_disk.specs.declared.call.Deed.TheVariants.{Write}
use Rattle.vol_disk.proofs.Volumes.{seen_write, torn_write, does_of}
use Rattle.vol_disk.proofs.mem_vol.MemVolVol.write_at.Goals as goal

pub returns-clause-seen : goal.returns-clause-seen
returns-clause-seen c =
    seen_write c.args.self.now c.write.new.self c.write.result c.args.file c.args.at c.args.bytes.now c.write.ensures.call

pub returns-clause-does : goal.returns-clause-does
returns-clause-does c =
    does_of c.args.self.now c.write.new.self c.write.result c.args.file (Write c.args.at c.args.bytes.now) c.write.ensures.call c.requires.within

pub returns-clause-torn : goal.returns-clause-torn
returns-clause-torn c =
    torn_write c.args.self.now c.write.new.self c.write.result c.args.file c.args.at c.args.bytes.now c.write.ensures.call
