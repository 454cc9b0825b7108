use Rattle.std.proofs.Common.{ℕ, ◌+◌, ◌≤◌, List, length, ap, sym, subst, take, drop, ◌∙◌}
use Rattle.vol_disk.specs.declared.call.Deed.TheVariants.{Read}
use Rattle.vol_disk.proofs.Volumes.{kept_read, does_of}
use Rattle.vol_disk.proofs.mem_vol.MemVolVol.read_at.Goals as goal

pub read_range-requires : goal.read_range-requires
read_range-requires c =
    let kept = kept_read c.args.self.now c.call.new.self c.call.result c.args.file c.args.at (length c.args.into.now) c.call.ensures.call in
    let size = ap length (c.bytes.ensures.value ∙ kept) in
    record { within = subst (λ n. c.args.at + length c.args.into.now ≤ n) (sym size) c.requires.within }

pub returns-in-Ok-clause-value : goal.returns-in-Ok-clause-value
returns-in-Ok-clause-value c =
    let kept = kept_read c.args.self.now c.call.new.self c.call.result c.args.file c.args.at (length c.args.into.now) c.call.ensures.call in
    c.read_range.ensures.value ∙ ap (λ (bytes : List ℕ). take (length c.args.into.now) (drop c.args.at bytes)) (c.bytes.ensures.value ∙ kept)

pub returns-in-Ok-clause-seen : goal.returns-in-Ok-clause-seen
returns-in-Ok-clause-seen c =
    kept_read c.args.self.now c.call.new.self c.call.result c.args.file c.args.at (length c.args.into.now) c.call.ensures.call

pub returns-in-Ok-clause-does : goal.returns-in-Ok-clause-does
returns-in-Ok-clause-does c =
    does_of c.args.self.now c.call.new.self c.call.result c.args.file (Read c.args.at (length c.args.into.now)) c.call.ensures.call c.requires.within

pub returns-in-Err-clause-seen : goal.returns-in-Err-clause-seen
returns-in-Err-clause-seen c =
    kept_read c.args.self.now c.call.new.self c.call.result c.args.file c.args.at (length c.args.into.now) c.call.ensures.call

pub returns-in-Err-clause-does : goal.returns-in-Err-clause-does
returns-in-Err-clause-does c =
    does_of c.args.self.now c.call.new.self c.call.result c.args.file (Read c.args.at (length c.args.into.now)) c.call.ensures.call c.requires.within
