use Rattle.std.proofs.Common.{◌≡◌, ◌+◌, ◌-◌, ◌<◌, Bool, true, false, not, length, drop, refl, sym, ap, ◌∙◌, arith}
use Rattle.js_base.specs.Bytes.{Bytes}
use Rattle.durable_checks.specs.Known.{knows}
use Rattle.durable_checks.proofs.Different.{is_text_in, comes_twice}
use Rattle.durable_checks.proofs.ids.are_different.Goals as goal

was_known : (b : Bool) → not b ≡ false → b ≡ true
was_known true e = refl
was_known false e = sym e

pub returns-then-not-branch : goal.returns-then-not-branch
returns-then-not-branch c =
    let ids = c.args.ids.now in
    let at = c.loop-at.at in
    let i = c.index-ids-at.result in
    let within : at - 1 < length ids = omega (arith, c.loop-at.invariant.within, c.loop-at-test.true) in
    let next : at ≡ at - 1 + 1 = omega (arith, c.loop-at-test.true) in
    let text = c.as_slice.result.now in
    let known = was_known (knows c.loop-at.known text) (sym c.in_ok-add.ensures.new ∙ c.if-not-branch.true) in
    let there = ap (λ (t : Bytes). is_text_in (drop at ids) t) (sym c.as_slice.ensures) ∙ sym (c.loop-at.invariant.known text) ∙ known in
    record { value = sym (comes_twice ids (at - 1) at i within c.index-ids-at.is next there) }
