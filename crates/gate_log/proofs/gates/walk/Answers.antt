use Rattle.std.proofs.Common.{◌<◌, ap, sym, subst, arith}
use Rattle.vol_disk.proofs.Moments.{quiet_then}
use Rattle.gate_log.specs.Walking.{IsWalkFault}
use Rattle.gate_log.specs.declared.ends.Ends.{Ends}
use Rattle.gate_log.proofs.LetOn.{handed_on}
use Rattle.gate_log.proofs.Walks.{walk_fault, walks_on, next_inside}
use Rattle.gate_log.proofs.gates.walk.Goals as goal

pub returns-in_err-next-clause-fault : goal.returns-in_err-next-clause-fault
returns-in_err-next-clause-fault g c = λ told.
    let bytes = (g.V.Vol.disk c.args.vol.now).seen c.args.file in
    handed_on (IsWalkFault bytes) c.in_err-next.field-0.0 c.from_residual.result c.from_residual.ensures.1
    (walk_fault bytes ((g.V.Vol.disk c.loop-next.vol).seen c.args.file) c.in_err-next.field-0.0 c.loop-next.ends.first c.loop-next.ends.last ((c.loop-next.invariant.quiet told).seen c.args.file) (c.loop-next.invariant.walked told) (c.in_err-next.ensures.fault told))

pub loop-next-preserved : goal.loop-next-preserved
loop-next-preserved g c = record {
  quiet = λ told. quiet_then (g.V.Vol.disk c.args.vol.now) (g.V.Vol.disk c.loop-next.vol) (g.V.Vol.disk c.next_gate.new.vol) (c.loop-next.invariant.quiet told) (c.next_gate.ensures.quiet told);
  walked = λ told.
      walks_on ((g.V.Vol.disk c.args.vol.now).seen c.args.file) ((g.V.Vol.disk c.loop-next.vol).seen c.args.file) c.loop-next.ends.first c.loop-next.ends.last c.in-Some.next c.before-ends.result.first c.before-ends.result.last c.in_ok-next.field-0 ((c.loop-next.invariant.quiet told).seen c.args.file) c.in-Some.is (c.loop-next.invariant.walked told) (c.in_ok-next.ensures.next told) (ap (λ (e : Ends). e.last) c.before-ends.ensures.value) (ap (λ (e : Ends). e.first) c.before-ends.ensures.value);
  faults = omega (arith, c.loop-next.invariant.faults, c.next_gate.ensures.cause.later);
  refusals = omega (arith, c.loop-next.invariant.refusals, c.next_gate.ensures.refusals);
  moments = omega (arith, c.loop-next.invariant.moments, c.next_gate.ensures.later);
  inside = subst (λ n. n < c.args.len) (sym (ap (λ (e : Ends). e.last) c.before-ends.ensures.value)) (next_inside c.in_ok-next.field-0 c.loop-next.ends.last c.in-Some.next c.args.len c.in-Some.is c.in_ok-next.ensures.within);
}
