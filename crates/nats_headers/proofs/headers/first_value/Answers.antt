use Rattle.std.proofs.Common.{◌∙◌, sym, ap, Some}
use Rattle.nats_headers.proofs.Faults.{named_here, not_named_here}
use Rattle.nats_headers.proofs.headers.first_value.Goals as goal

pub returns-then-is_named : goal.returns-then-is_named
returns-then-is_named c =
    record { value = ap Some c.value_of.ensures.value ∙ named_here c.args.name.now c.loop-line.lines.now c.in-Some.line.now c.in-Some.after.now c.in-Some.ensures.cut (sym c.if-is_named.ensures.value) ∙ c.loop-line.invariant }

pub loop-line-preserved : goal.loop-line-preserved
loop-line-preserved c = not_named_here c.args.name.now c.loop-line.lines.now c.in-Some.line.now c.in-Some.after.now c.in-Some.ensures.cut (sym c.if-is_named.ensures.value) ∙ c.loop-line.invariant
