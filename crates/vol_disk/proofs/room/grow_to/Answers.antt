use Rattle.std.proofs.Common.{◌≤◌, ◌+◌, length, arith}
use Rattle.vol_disk.proofs.Growing.{extends_none, extends_grown, extended_same, extended_more, extended_length, made_is, made_length}
use Rattle.vol_disk.proofs.room.grow_to.Goals as goal

pub loop-at-init : goal.loop-at-init
loop-at-init g c = record {
  len = λ told. c.requires.len told;
  seen = λ told. extended_same ((g.V.Vol.disk c.args.vol.now).seen c.args.file);
  extends = λ told. extends_none c.args.file c.args.end (g.V.Vol.disk c.args.vol.now) (g.met.V.Vol.clocked c.args.vol.now);
  faults = omega arith;
  refusals = omega arith;
  moments = omega arith;
}

pub loop-at-preserved : goal.loop-at-preserved
loop-at-preserved g c =
    let file = c.args.file in
    let count = c.min-count.result in
    let old = g.V.Vol.disk c.args.vol.now in
    let mid = g.V.Vol.disk c.loop-at.vol in
    let new = g.V.Vol.disk c.grow.new.self in
    record {
      len = λ told. omega (arith, c.loop-at.invariant.len told, made_length c.in_ok-grow.field-0 count (mid.seen file) (new.seen file) c.in-Made.is (c.in_ok-grow.ensures.grown told));
      seen = λ told. extended_more (old.seen file) (mid.seen file) _ (new.seen file) (c.loop-at.invariant.seen told) (made_is c.in_ok-grow.field-0 count (mid.seen file) (new.seen file) c.in-Made.is (c.in_ok-grow.ensures.grown told));
      extends = λ told.
          let reaches : length (mid.seen file) + count ≤ c.args.end = omega (arith, c.loop-at.invariant.len told, c.loop-at-test.true, c.min-count.ensures) in
          extends_grown file c.args.end old mid new (length (mid.seen file)) count (extended_length (old.seen file) (mid.seen file) (c.loop-at.invariant.seen told)) reaches (c.loop-at.invariant.extends told) (c.grow.ensures.does told);
      faults = omega (arith, c.loop-at.invariant.faults, c.grow.ensures.cause.later);
      refusals = omega (arith, c.loop-at.invariant.refusals, c.grow.ensures.refused.later);
      moments = omega (arith, c.loop-at.invariant.moments, c.grow.ensures.later);
    }

pub returns-in_err-grow-clause-extends : goal.returns-in_err-grow-clause-extends
returns-in_err-grow-clause-extends g c = λ told.
    let file = c.args.file in
    let count = c.min-count.result in
    let old = g.V.Vol.disk c.args.vol.now in
    let mid = g.V.Vol.disk c.loop-at.vol in
    let new = g.V.Vol.disk c.grow.new.self in
    let reaches : length (mid.seen file) + count ≤ c.args.end = omega (arith, c.loop-at.invariant.len told, c.loop-at-test.true, c.min-count.ensures) in
    extends_grown file c.args.end old mid new (length (mid.seen file)) count (extended_length (old.seen file) (mid.seen file) (c.loop-at.invariant.seen told)) reaches (c.loop-at.invariant.extends told) (c.grow.ensures.does told)

pub returns-in-Refused-clause-extends : goal.returns-in-Refused-clause-extends
returns-in-Refused-clause-extends g c = λ told.
    let file = c.args.file in
    let count = c.min-count.result in
    let old = g.V.Vol.disk c.args.vol.now in
    let mid = g.V.Vol.disk c.loop-at.vol in
    let new = g.V.Vol.disk c.grow.new.self in
    let reaches : length (mid.seen file) + count ≤ c.args.end = omega (arith, c.loop-at.invariant.len told, c.loop-at-test.true, c.min-count.ensures) in
    extends_grown file c.args.end old mid new (length (mid.seen file)) count (extended_length (old.seen file) (mid.seen file) (c.loop-at.invariant.seen told)) reaches (c.loop-at.invariant.extends told) (c.grow.ensures.does told)
