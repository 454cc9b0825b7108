use Rattle.std.proofs.Common.{◌≡◌, ℕ, ◌+◌, ◌-◌, ◌<◌, cond, nat_lt, length, drop, sym, ap, ◌∙◌, arith}
use Rattle.js_base.specs.Bytes.{Bytes, same}
use Rattle.durable_checks.specs.Limits.{count_in}
use Rattle.durable_checks.proofs.Newest.{on_subject, newest_more, one_too_many, counted_more}
use Rattle.durable_checks.proofs.limits.are_newest.Goals as goal

pub returns-then-not-branch : goal.returns-then-not-branch
returns-then-not-branch c =
    let messages = c.args.messages.now in
    let limit = c.args.limit in
    let at = c.loop-at.at in
    let m = c.index-messages-at.result in
    let within : at - 1 < length messages = omega (arith, c.loop-at.invariant.within, c.loop-at-test.true) in
    let next : at ≡ at - 1 + 1 = omega (arith, c.loop-at-test.true) in
    let subject = c.as_slice.result.now in
    let counted = ap (λ (s : Bytes). nat_lt (on_subject s (drop at messages)) limit) (sym c.as_slice.ensures) ∙ ap (λ (n : ℕ). nat_lt n limit) (sym (c.loop-at.invariant.counted subject)) in
    record { value = sym (one_too_many messages (at - 1) at m within c.index-messages-at.is next limit (counted ∙ sym c.in_ok-count.ensures.few ∙ c.if-not-branch.true)) }

pub loop-at-preserved : goal.loop-at-preserved
loop-at-preserved c =
    let messages = c.args.messages.now in
    let limit = c.args.limit in
    let at = c.loop-at.at in
    let old = c.loop-at.counts in
    let m = c.index-messages-at.result in
    let within : at - 1 < length messages = omega (arith, c.loop-at.invariant.within, c.loop-at-test.true) in
    let next : at ≡ at - 1 + 1 = omega (arith, c.loop-at-test.true) in
    let subject = c.as_slice.result.now in
    let counted = ap (λ (s : Bytes). nat_lt (on_subject s (drop at messages)) limit) (sym c.as_slice.ensures) ∙ ap (λ (n : ℕ). nat_lt n limit) (sym (c.loop-at.invariant.counted subject)) in
    record {
      within = omega (arith, within);
      newest = newest_more messages (at - 1) at m within c.index-messages-at.is next limit (counted ∙ sym c.in_ok-count.ensures.few ∙ c.if-not-branch.false) c.loop-at.invariant.newest;
      counted = λ other.
          c.in_ok-count.ensures.counted c.if-not-branch.false other
          ∙ ap (λ (n : ℕ). cond (same subject other) (n + 1) (count_in old other)) (c.loop-at.invariant.counted subject)
          ∙ ap (λ (n : ℕ). cond (same subject other) (on_subject subject (drop at messages) + 1) n) (c.loop-at.invariant.counted other)
          ∙ ap (λ (s : Bytes). cond (same s other) (on_subject s (drop at messages) + 1) (on_subject other (drop at messages))) c.as_slice.ensures
          ∙ sym (counted_more messages (at - 1) at m within c.index-messages-at.is next other);
    }
