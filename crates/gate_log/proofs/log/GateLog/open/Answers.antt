use Rattle.std.proofs.Common.{◌≡◌, ◌∙◌, ◌<◌, ℕ, Option, length, subst, arith}
use Rattle.js_base.specs.Bytes.{Bytes}
use Rattle.gate_log.specs.Opening.{IsHeadRead, IsOpenFault}
use Rattle.gate_log.proofs.LetOn.{handed_on}
use Rattle.gate_log.proofs.Openings.{open_walk_fault}
use Rattle.gate_log.proofs.log.GateLog.open.Goals as goal

pub returns-in_err-ends-clause-fault : goal.returns-in_err-ends-clause-fault
returns-in_err-ends-clause-fault g c = λ told.
    let bytes = (g.V.Vol.disk c.args.vol.now).seen c.args.file in
    let first = (c.synced_len.ensures.quiet told).seen c.args.file in
    let second = (c.head_of.ensures.quiet told).seen c.args.file in
    handed_on (IsOpenFault bytes) c.in_err-ends.field-0.0 c.from_residual-in_err-ends.result c.from_residual-in_err-ends.ensures.1
    (open_walk_fault bytes ((g.V.Vol.disk c.synced_len.new.vol).seen c.args.file) ((g.V.Vol.disk c.head_of.new.vol).seen c.args.file) c.in-Some.generation c.in_err-ends.field-0.0 first (second ∙ first) (long c.in_ok-len.len bytes (c.in_ok-len.ensures.value told) c.if-len.false) (subst (λ (o : Option ℕ). IsHeadRead ((g.V.Vol.disk c.synced_len.new.vol).seen c.args.file) o) c.in-Some.is (c.in_ok-generation.ensures.ok told)) (c.in_err-ends.ensures.fault told))
  where
    long : (len : ℕ) (bytes : Bytes) → len ≡ length bytes → 21 < len → 21 < length bytes
    long len bytes is lt = omega arith
