use Rattle.std.proofs.Common.{◌∙◌, sym, ap, drop, ◌+◌, ◌*◌, ◌≤◌, subst, ℕ, ◌^◌}
use Rattle.js_base.proofs.Decimals.{continued, continued-next, too_big}
use Rattle.js_base.proofs.decimal.small_value.Goals as goal

pub returns-then-n-clause-none : goal.returns-then-n-clause-none
returns-then-n-clause-none c =
    let P : ℕ → Type 0 = λ n. 2 ^ 62 ≤ n in
    subst P c.loop-digit.invariant (too_big c.loop-digit.n c.args.text.now c.loop-digit.digit-index c.loop-digit-test.true c.if-n.true)

pub loop-digit-preserved : goal.loop-digit-preserved
loop-digit-preserved c =
    ap (λ d. continued (c.loop-digit.n * 10 + d) (drop (c.loop-digit.digit-index + 1) c.args.text.now)) c.from.ensures
    ∙ sym (continued-next c.loop-digit.n c.args.text.now c.loop-digit.digit-index c.loop-digit-test.true) ∙ c.loop-digit.invariant
