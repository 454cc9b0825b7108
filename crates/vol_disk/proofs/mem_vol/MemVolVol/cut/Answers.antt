use Rattle.vol_disk.specs.declared.call.Deed.TheVariants.{Cut}
use Rattle.vol_disk.proofs.Volumes.{seen_cut, torn_cut, does_of}
use Rattle.vol_disk.proofs.mem_vol.MemVolVol.cut.Goals as goal

pub returns-clause-seen : goal.returns-clause-seen
returns-clause-seen c =
    seen_cut c.args.self.now c.call.new.self c.call.result c.args.file c.args.to c.call.ensures.call

pub returns-clause-does : goal.returns-clause-does
returns-clause-does c =
    does_of c.args.self.now c.call.new.self c.call.result c.args.file (Cut c.args.to) c.call.ensures.call c.requires.within

pub returns-clause-torn : goal.returns-clause-torn
returns-clause-torn c =
    torn_cut c.args.self.now c.call.new.self c.call.result c.args.file c.args.to c.call.ensures.call
