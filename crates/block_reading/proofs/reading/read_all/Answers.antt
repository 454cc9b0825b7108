use Rattle.std.proofs.Common.{All, arith, refl, subst, sym}
use Rattle.std.proofs.lemmas.List.Elements.{all_zip_more}
use Rattle.std.proofs.lemmas.Result.{err_from_is_err_and}
use Rattle.vol_disk.specs.Disk.{Files}
use Rattle.vol_disk.proofs.Moments.{quiet, quiet_then}
use Rattle.block_table.specs.Blocks.{blocks}
use Rattle.block_reading.specs.Standing.{IsWhole}
use Rattle.block_reading.specs.Damage.{IsToldBy}
use Rattle.block_reading.specs.Reading.{IsFound, IsLostFault}
use Rattle.block_reading.proofs.Before.{same_seen}
use Rattle.block_reading.proofs.Found.{all_found, all_told, lost_there, no_spot, one_allowed, one_found, placed_at, spot_within}
use Rattle.block_reading.proofs.reading.read_all.Goals as goal

pub loop-one-init : goal.loop-one-init
loop-one-init g c = record {
  found = λ told. rw c.new-messages.ensures tt;
  told = rw c.new-messages.ensures tt;
  allowed = rw c.new-messages.ensures refl;
  quiet = λ told. quiet (g.V.Vol.disk c.args.vol.now) (g.met.V.Vol.clocked c.args.vol.now);
  faults = omega arith;
  refusals = omega arith;
  moments = omega arith;
}

pub unreachable-requires : goal.unreachable-requires
unreachable-requires g c =
    no_spot c.args.table.now c.args.told.now c.loop-one.one-index c.one-item.result c.requires.table c.requires.placed (omega arith) c.one-item.is c.in_default.ensures

pub read_one-requires : goal.read_one-requires
read_one-requires g c = record {
  within = λ told.
      let was = g.V.Vol.disk c.args.vol.now in
      let mid = g.V.Vol.disk c.loop-one.vol in
      let at = placed_at c.args.table.now c.args.told.now c.loop-one.one-index c.one-item.result c.requires.table c.requires.placed (omega arith) c.one-item.is c.in-Some.spot c.in-Some.ensures in
      spot_within mid.seen c.args.last c.args.table.now c.loop-one.one-index c.one-item.result c.in-Some.spot c.requires.table at
      (subst (λ (image : Files). All (IsWhole image c.args.last) (blocks c.args.table.now)) (sym (same_seen was mid (c.loop-one.invariant.quiet told))) (c.requires.whole told));
}

pub returns-in_err-message-clause-fault : goal.returns-in_err-message-clause-fault
returns-in_err-message-clause-fault g c = λ told.
    let was = g.V.Vol.disk c.args.vol.now in
    let mid = g.V.Vol.disk c.loop-one.vol in
    let p = err_from_is_err_and c.from_residual.result c.from_residual.ensures.1 in
    let at = placed_at c.args.table.now c.args.told.now c.loop-one.one-index c.one-item.result c.requires.table c.requires.placed (omega arith) c.one-item.is c.in-Some.spot c.in-Some.ensures in
    let fault = subst (λ (image : Files). IsLostFault image c.in-Some.spot c.one-item.result c.in_err-message.field-0.0) (same_seen was mid (c.loop-one.invariant.quiet told)) (c.in_err-message.ensures.fault told) in
    rw (p.1, p.2)
    (lost_there was.seen c.args.table.now c.args.told.now c.loop-one.one-index c.one-item.result c.loop-one.messages c.in-Some.spot c.in_err-message.field-0.0 (omega arith) c.one-item.is at (c.loop-one.invariant.found told)
    c.loop-one.invariant.told fault)

pub returns-in_err-message-clause-quiet : goal.returns-in_err-message-clause-quiet
returns-in_err-message-clause-quiet g c = λ told.
    quiet_then (g.V.Vol.disk c.args.vol.now) (g.V.Vol.disk c.loop-one.vol) (g.V.Vol.disk c.read_one.new.vol) (c.loop-one.invariant.quiet told) (c.read_one.ensures.quiet told)

pub returns-in_err-push-clause-quiet : goal.returns-in_err-push-clause-quiet
returns-in_err-push-clause-quiet g c = λ told.
    quiet_then (g.V.Vol.disk c.args.vol.now) (g.V.Vol.disk c.loop-one.vol) (g.V.Vol.disk c.read_one.new.vol) (c.loop-one.invariant.quiet told) (c.read_one.ensures.quiet told)

pub loop-one-preserved : goal.loop-one-preserved
loop-one-preserved g c =
    let was = g.V.Vol.disk c.args.vol.now in
    let mid = g.V.Vol.disk c.loop-one.vol in
    let m = c.in_ok-message.message in
    let pushed = c.in_ok-push.ensures.ok in
    let at = placed_at c.args.table.now c.args.told.now c.loop-one.one-index c.one-item.result c.requires.table c.requires.placed (omega arith) c.one-item.is c.in-Some.spot c.in-Some.ensures in
    record {
      found = λ told.
          rw pushed
          (one_found was.seen c.args.table.now c.loop-one.one-index c.one-item.result m c.loop-one.messages c.in-Some.spot at (c.loop-one.invariant.found told)
          (subst (λ (image : Files). IsFound image c.in-Some.spot c.one-item.result m) (same_seen was mid (c.loop-one.invariant.quiet told)) (c.in_ok-message.ensures.found told)));
      told = rw pushed (all_zip_more IsToldBy c.args.told.now c.loop-one.messages c.loop-one.one-index c.one-item.result m (omega arith) c.one-item.is c.loop-one.invariant.told c.in_ok-message.ensures.told);
      allowed = rw pushed (one_allowed c.loop-one.messages m c.loop-one.invariant.allowed c.in_ok-message.ensures.allowed);
      quiet = λ told. quiet_then was mid (g.V.Vol.disk c.read_one.new.vol) (c.loop-one.invariant.quiet told) (c.read_one.ensures.quiet told);
      faults = omega (arith, c.loop-one.invariant.faults, c.read_one.ensures.cause.later);
      refusals = omega (arith, c.loop-one.invariant.refusals, c.read_one.ensures.refusals);
      moments = omega (arith, c.loop-one.invariant.moments, c.read_one.ensures.later);
    }

pub returns-clause-found : goal.returns-clause-found
returns-clause-found g c = λ told.
    all_found (g.V.Vol.disk c.args.vol.now).seen c.args.table.now c.args.told.now c.loop-one.one-index c.loop-one.messages c.requires.placed (omega arith) (c.loop-one.invariant.found told)

pub returns-clause-told : goal.returns-clause-told
returns-clause-told g c = all_told c.args.told.now c.loop-one.one-index c.loop-one.messages (omega arith) c.loop-one.invariant.told
