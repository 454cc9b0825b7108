use Rattle.js_json.proofs.ReadParts.{no_fraction-read, many_digits-read, no_digits-read, fraction-read, fraction-lt}
use Rattle.js_json.proofs.time.fraction_at.Goals as goal

pub returns-in_default-clause-value : goal.returns-in_default-clause-value
returns-in_default-clause-value c = no_fraction-read c.args.text.now c.in_default.ensures.value

pub returns-then-count-gt9-clause-value : goal.returns-then-count-gt9-clause-value
returns-then-count-gt9-clause-value c =
    many_digits-read c.args.text.now c.in-Some.text.now c.digits_len-count.result c.in-Some.ensures.value c.digits_len-count.ensures.value c.if-count-gt9.true

pub returns-in_err-n-clause-value : goal.returns-in_err-n-clause-value
returns-in_err-n-clause-value c =
    rw c.from_residual.ensures
    (no_digits-read c.args.text.now c.in-Some.text.now c.digits_len-count.result c.in-Some.ensures.value c.digits_len-count.ensures.value c.if-count-gt9.false c.in_err-n.ensures.value)

pub returns-clause-value : goal.returns-clause-value
returns-clause-value c =
    rw c.pow.ensures
    (fraction-read c.args.text.now c.in-Some.text.now c.digits_len-count.result (c.in_ok-n.n, c.in_ok-n.rest.now) c.in-Some.ensures.value c.digits_len-count.ensures.value c.if-count-gt9.false c.in_ok-n.ensures.value)

pub returns-clause-small : goal.returns-clause-small
returns-clause-small c = rw c.pow.ensures (fraction-lt c.in_ok-n.n c.digits_len-count.result c.in_ok-n.ensures.small c.if-count-gt9.false)
