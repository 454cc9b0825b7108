use Rattle.std.proofs.Common.{length, ap, ◌∙◌}
use Rattle.vol_disk.specs.declared.call.Deed.TheVariants.{Len}
use Rattle.vol_disk.proofs.Volumes.{kept_len, does_of}
use Rattle.vol_disk.proofs.mem_vol.MemVolVol.len.Goals as goal

pub returns-in-Ok-clause-value : goal.returns-in-Ok-clause-value
returns-in-Ok-clause-value c =
    let kept = kept_len c.args.self.now c.call.new.self c.call.result c.args.file c.call.ensures.call in
    ap length (c.bytes.ensures.value ∙ kept)

pub returns-in-Ok-clause-seen : goal.returns-in-Ok-clause-seen
returns-in-Ok-clause-seen c =
    kept_len c.args.self.now c.call.new.self c.call.result c.args.file c.call.ensures.call

pub returns-in-Ok-clause-does : goal.returns-in-Ok-clause-does
returns-in-Ok-clause-does c =
    does_of c.args.self.now c.call.new.self c.call.result c.args.file Len c.call.ensures.call tt

pub returns-in-Err-clause-seen : goal.returns-in-Err-clause-seen
returns-in-Err-clause-seen c =
    kept_len c.args.self.now c.call.new.self c.call.result c.args.file c.call.ensures.call

pub returns-in-Err-clause-does : goal.returns-in-Err-clause-does
returns-in-Err-clause-does c =
    does_of c.args.self.now c.call.new.self c.call.result c.args.file Len c.call.ensures.call tt
