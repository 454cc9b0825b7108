use Rattle.std.proofs.Common.{◌≡◌, ◌+◌, nat_lt, sym, ◌∙◌, arith}
use Rattle.js_base.specs.Moments.{plus}
use Rattle.stored_stream.proofs.Finding.{found_from, found_within}
use Rattle.stored_stream.proofs.Latest.{old_next, old_none, young_from_end, young_from_found, young_from_start}
use Rattle.stored_stream.proofs.later.first_young.Goals as goal

pub loop-message-init : goal.loop-message-init
loop-message-init c = let s = c.args.stored.now in old_none s.config.max_age c.args.now (s.last + 1) s.messages c.requires.sound.ascends

pub overflow_add-from : goal.overflow_add-from
overflow_add-from c =
    let within = found_within c.args.stored.now _ c.in-Some.message.now c.requires.sound c.in-Some.ensures.value in
    omega (arith, within, c.requires.sound.last)

pub loop-message-smaller : goal.loop-message-smaller
loop-message-smaller c =
    let s = c.args.stored.now in
    let within = found_within s _ c.in-Some.message.now c.requires.sound c.in-Some.ensures.value in
    let from = found_from s.messages c.loop-message.from c.in-Some.message.now c.in-Some.ensures.value in
    omega (arith, within, from)

pub returns-then-max_age-eq0 : goal.returns-then-max_age-eq0
returns-then-max_age-eq0 c =
    let s = c.args.stored.now in
    record { young = young_from_start s c.args.now c.requires.sound (rw (← c.config.ensures.value) c.if-max_age-eq0.true) }

pub returns-then-is_young : goal.returns-then-is_young
returns-then-is_young c =
    let s = c.args.stored.now in
    let m = c.in-Some.message.now in
    let limited : s.config.max_age ≡ 0 → ⊥ = rw (← c.config.ensures.value) c.if-max_age-eq0.false in
    let told : c.is_young.result ≡ nat_lt c.args.now (plus m.at s.config.max_age) = rw (← c.config.ensures.value) c.is_young.ensures.value in
    record { young = young_from_found s c.args.now c.requires.sound c.loop-message.from limited c.loop-message.invariant m c.in-Some.ensures.value (sym told ∙ c.if-is_young.true) }

pub loop-message-preserved : goal.loop-message-preserved
loop-message-preserved c =
    let s = c.args.stored.now in
    let m = c.in-Some.message.now in
    let limited : s.config.max_age ≡ 0 → ⊥ = rw (← c.config.ensures.value) c.if-max_age-eq0.false in
    let told : c.is_young.result ≡ nat_lt c.args.now (plus m.at s.config.max_age) = rw (← c.config.ensures.value) c.is_young.ensures.value in
    old_next s c.args.now c.requires.sound c.loop-message.from limited c.loop-message.invariant m c.in-Some.ensures.value (sym told ∙ c.if-is_young.false)

pub returns : goal.returns
returns c =
    let s = c.args.stored.now in
    let limited : s.config.max_age ≡ 0 → ⊥ = rw (← c.config.ensures.value) c.if-max_age-eq0.false in
    record { young = young_from_end s c.args.now c.requires.sound c.loop-message.from limited c.loop-message.invariant c.in_default.ensures.value }
