use Rattle.std.proofs.Common.{◌≡◌, ◌<◌, ◌+◌, ◌^◌, ◌∙◌, take, drop, refl, subst, arith}
use Rattle.js_base.specs.Bytes.{Bytes}
use Rattle.checksum.specs.Crc.{crc32c}
use Rattle.gate_log.proofs.Walks.{parts, is_open, short_gate, long_batch, other_checksum}
use Rattle.gate_log.proofs.gates.next_gate.Goals as goal

pub returns-then-len-at-lt-AROUND_BATCH-clause-fault : goal.returns-then-len-at-lt-AROUND_BATCH-clause-fault
returns-then-len-at-lt-AROUND_BATCH-clause-fault g c = λ told.
    let bytes = (g.V.Vol.disk c.args.vol.now).seen c.args.file in
    let one : c.in_ok-byte_at.field-0 ≡ 1 = omega arith in
    (refl, short_gate bytes c.in_ok-byte_at.field-0 c.args.at c.args.len one (c.in_ok-byte_at.ensures.value told) (c.requires.len told) c.if-len-at-lt-AROUND_BATCH.true)

pub returns-then-len-at-clause-fault : goal.returns-then-len-at-clause-fault
returns-then-len-at-clause-fault g c = λ told.
    let bytes = (g.V.Vol.disk c.args.vol.now).seen c.args.file in
    let mid = (g.V.Vol.disk c.byte_at.new.vol).seen c.args.file in
    let count = c.in_ok-count.field-0 in
    let one : c.in_ok-byte_at.field-0 ≡ 1 = omega arith in
    let small : count < 2 ^ 32 = omega arith in
    (refl, long_batch bytes mid c.in_ok-byte_at.field-0 c.args.at count c.args.len ((c.byte_at.ensures.quiet told).seen c.args.file) one (c.in_ok-byte_at.ensures.value told) (c.in_ok-count.ensures.value told) (c.requires.len told) c.if-len-at.true small)

pub returns-then-branch-told-clause-fault : goal.returns-then-branch-told-clause-fault
returns-then-branch-told-clause-fault g c = λ told.
    let bytes = (g.V.Vol.disk c.args.vol.now).seen c.args.file in
    let count = c.in_ok-count.field-0 in
    let first = (c.byte_at.ensures.quiet told).seen c.args.file in
    let second = (c.number_at.ensures.quiet told).seen c.args.file ∙ first in
    let third = (c.number_at-2.ensures.quiet told).seen c.args.file ∙ second in
    let one : c.in_ok-byte_at.field-0 ≡ 1 = omega arith in
    let small : count < 2 ^ 32 = omega arith in
    let less : c.in_ok-told.told < 2 ^ 32 = omega arith in
    let whole = parts bytes ((g.V.Vol.disk c.byte_at.new.vol).seen c.args.file) ((g.V.Vol.disk c.number_at.new.vol).seen c.args.file) c.in_ok-byte_at.field-0 c.args.at count c.in_ok-told.told first second one (c.in_ok-byte_at.ensures.value told) (c.in_ok-count.ensures.value told) (c.in_ok-told.ensures.value told) in
    let sum_is = subst (λ (l : Bytes). c.in_ok-checksum_at.field-0 ≡ crc32c (take count (drop (c.args.at + 9) l))) third (c.in_ok-checksum_at.ensures.value told) in
    (refl, other_checksum bytes c.args.at count c.in_ok-told.told c.in_ok-checksum_at.field-0 whole sum_is c.if-branch-told.true small less)

pub returns-clause-next : goal.returns-clause-next
returns-clause-next g c = λ told.
    let bytes = (g.V.Vol.disk c.args.vol.now).seen c.args.file in
    let count = c.in_ok-count.field-0 in
    let first = (c.byte_at.ensures.quiet told).seen c.args.file in
    let second = (c.number_at.ensures.quiet told).seen c.args.file ∙ first in
    let third = (c.number_at-2.ensures.quiet told).seen c.args.file ∙ second in
    let one : c.in_ok-byte_at.field-0 ≡ 1 = omega arith in
    let room : c.args.at + 9 + count < c.args.len = omega arith in
    let small : count < 2 ^ 32 = omega arith in
    let whole = parts bytes ((g.V.Vol.disk c.byte_at.new.vol).seen c.args.file) ((g.V.Vol.disk c.number_at.new.vol).seen c.args.file) c.in_ok-byte_at.field-0 c.args.at count c.in_ok-told.told first second one (c.in_ok-byte_at.ensures.value told) (c.in_ok-count.ensures.value told) (c.in_ok-told.ensures.value told) in
    let sum_is = subst (λ (l : Bytes). c.in_ok-checksum_at.field-0 ≡ crc32c (take count (drop (c.args.at + 9) l))) third (c.in_ok-checksum_at.ensures.value told) in
    let same : c.in_ok-told.told ≡ c.in_ok-checksum_at.field-0 = omega arith in
    is_open bytes c.args.at count c.in_ok-told.told whole (same ∙ sum_is) (omega (arith, c.requires.len told)) small
