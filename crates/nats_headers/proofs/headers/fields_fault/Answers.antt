use Rattle.std.proofs.Common.{◌∙◌, sym, arith}
use Rattle.nats_headers.proofs.Faults.{field_here, other_here}
use Rattle.nats_headers.proofs.headers.fields_fault.Goals as goal

pub returns-then-not-is_field_line : goal.returns-then-not-is_field_line
returns-then-not-is_field_line c = record {
  value =
      c.unless_end.ensures.value ∙ other_here c.loop-line.at c.loop-line.lines.now c.in-Some.line.now c.in-Some.after.now c.in-Some.ensures.cut (sym c.if-not-is_field_line.ensures.value)
      ∙ c.loop-line.invariant.same_fault;
}

pub loop-line-preserved : goal.loop-line-preserved
loop-line-preserved c = record {
  same_fault = field_here c.loop-line.at c.loop-line.lines.now c.in-Some.line.now c.in-Some.after.now c.in-Some.ensures.cut (sym c.if-not-is_field_line.ensures.value) ∙ c.loop-line.invariant.same_fault;
  where_left = omega (arith, c.in-Some.ensures.size, c.loop-line.invariant.where_left);
}
